-- Of two numbers 2 ^ -42 apart one is surely on a side of the arctangent. Assumes nothing.
use mathlib.Core.Path.{◌≡◌, refl, sym, ap, ◌∙◌, subst}
use mathlib.Core.Logic.{◌⊎◌, inl, inr}
use Prim.Native.Nat.{ℕ, zero, suc, ◌+◌, ◌-◌, ◌*◌, ◌^◌, ◌≤◌, ◌<◌, zero-le}
use native.Mathlib.Nat.{le_trans, le_of_eq, le_refl, add_comm, mul-add, add-mul, mul_comm, mul_assoc, mul-le-mul, mul-le-mul_right, mul-pos}
use native.Mathlib.Omega.{arith}
use lib.Dec.{leb→le}
use lib.Pow.{pow_pos}
use Rattle.circle.specs.Series.{term}
use Rattle.circle.specs.Inside.Fixed.{Apart}
use Rattle.circle.specs.Inside.Signed.{plus, less}
use Rattle.circle.specs.Inside.Circle.{State, IsCircle, error}
use Rattle.arctangents.specs.Inside.Arctangent.{Good, NearlyAbove, NearlyBelow}
use Rattle.circle.proofs.Signed.{apart_wider}
use Rattle.circle.proofs.Squares.{twice_le}
use Rattle.arctangents.proofs.Sides.{state_at, error_5}
use Rattle.circle.proofs.Tiny.{step_state}
use Rattle.arctangents.proofs.Moved.{cosine_moved, sine_moved}

-- ---- two combinations that are small, and d is not
too_far : (d x y a b : ℕ) → 0 < a * a + b * b → d * b + x * a ≤ y * a + 2 ^ 58 * (a + b) → d * a + y * b ≤ x * b + 2 ^ 14 * (a + b) → 2 ^ 60 ≤ d → ⊥
too_far d x y a b pos h k l =
    end (d * (a * a + b * b)) (a * a + b * b) ((a + b) * b) ((a + b) * a) pos (mul-le-mul_right (a * a + b * b) l) whole
    (le_trans (le_of_eq (mul-add d (a * a) (b * b))) (sums (d * (a * a)) (d * (b * b)) (x * (a * b)) (y * (a * b)) ((a + b) * b) ((a + b) * a) first second))
  where
    first : d * (b * b) + x * (a * b) ≤ y * (a * b) + 2 ^ 58 * ((a + b) * b)
    first = le_trans (le_of_eq (sym (add-mul (d * b) (x * a) b ∙ ap (λ (z : ℕ). z + x * a * b) (mul_assoc d b b) ∙ ap (λ (z : ℕ). d * (b * b) + z) (mul_assoc x a b)))) (le_trans (mul-le-mul_right b h) (le_of_eq (add-mul (y * a) (2 ^ 58 * (a + b)) b ∙ ap (λ (z : ℕ). z + 2 ^ 58 * (a + b) * b) (mul_assoc y a b) ∙ ap (λ (z : ℕ). y * (a * b) + z) (mul_assoc (2 ^ 58) (a + b) b))))

    second : d * (a * a) + y * (a * b) ≤ x * (a * b) + 2 ^ 14 * ((a + b) * a)
    second = le_trans (le_of_eq (sym (add-mul (d * a) (y * b) a ∙ ap (λ (z : ℕ). z + y * b * a) (mul_assoc d a a) ∙ ap (λ (z : ℕ). d * (a * a) + z) (mul_assoc y b a ∙ ap (λ (z : ℕ). y * z) (mul_comm b a))))) (le_trans (mul-le-mul_right a k) (le_of_eq (add-mul (x * b) (2 ^ 14 * (a + b)) a ∙ ap (λ (z : ℕ). z + 2 ^ 14 * (a + b) * a) (mul_assoc x b a ∙ ap (λ (z : ℕ). x * z) (mul_comm b a)) ∙ ap (λ (z : ℕ). x * (a * b) + z) (mul_assoc (2 ^ 14) (a + b) a))))

    sums : (p q r s t v : ℕ) → q + r ≤ s + 2 ^ 58 * t → p + s ≤ r + 2 ^ 14 * v → p + q ≤ 2 ^ 58 * t + 2 ^ 14 * v
    sums p q r s t v h k = omega arith

    whole : (a + b) * b + (a + b) * a ≤ 2 * (a * a + b * b)
    whole = rw (add-mul a b b, add-mul a b a, mul_comm b a) (go (a * a) (b * b) (a * b) (twice_le a b))
      where
        go : (x y z : ℕ) → 2 * z ≤ x + y → z + y + (x + z) ≤ 2 * (x + y)
        go x y z h = omega arith

    end : (dq q t v : ℕ) → 0 < q → 2 ^ 60 * q ≤ dq → t + v ≤ 2 * q → dq ≤ 2 ^ 58 * t + 2 ^ 14 * v → ⊥
    end dq q t v p h k m = omega arith

-- ---- on the code's numbers: at y (without a mark) both tests were unsure, and at y + 2 ^ 16 it was not surely above
module _ (cp cm sp sm cp' cm' sp' sm' a b : ℕ) (b0 : 0 < b)
    (mc : Apart (cp' * 2 ^ 63) (cm' * 2 ^ 63) (cp * 2 ^ 63 + cm * 0 + (sp * 0 + sm * 2 ^ 21)) (cp * 0 + cm * 2 ^ 63 + (sp * 2 ^ 21 + sm * 0)) (2 ^ 15 * 2 ^ 63))
    (ms : Apart (sp' * 2 ^ 63) (sm' * 2 ^ 63) (cp * 2 ^ 21 + cm * 0 + (sp * 2 ^ 63 + sm * 0)) (cp * 0 + cm * 2 ^ 21 + (sp * 0 + sm * 2 ^ 63)) (2 ^ 15 * 2 ^ 63))
    (nb' : sp' * b + cm' * a ≤ sm' * b + cp' * a + 2 ^ 14 * (a + b))
    (na : cp * a + sm * b ≤ cm * a + sp * b + 2 ^ 14 * (a + b))
    (nb : sp * b + cm * a ≤ sm * b + cp * a + 2 ^ 14 * (a + b)) where
  cosine_step : 2 ^ 42 * cp' + 2 ^ 42 * cm + sp ≤ 2 ^ 42 * cp + sm + 2 ^ 42 * cm' + 2 ^ 57
  cosine_step = go cp' cm' cp cm sp sm mc.under
    where
      go : (cp' cm' cp cm sp sm : ℕ) → cp' * 2 ^ 63 + (cp * 0 + cm * 2 ^ 63 + (sp * 2 ^ 21 + sm * 0)) ≤ cp * 2 ^ 63 + cm * 0 + (sp * 0 + sm * 2 ^ 21) + cm' * 2 ^ 63 + 2 ^ 15 * 2 ^ 63 → 2 ^ 42 * cp' + 2 ^ 42 * cm + sp ≤ 2 ^ 42 * cp + sm + 2 ^ 42 * cm' + 2 ^ 57
      go cp' cm' cp cm sp sm h = omega (arith, h)

  sine_step : cp + 2 ^ 42 * sp + 2 ^ 42 * sm' ≤ 2 ^ 42 * sp' + cm + 2 ^ 42 * sm + 2 ^ 57
  sine_step = go sp' sm' cp cm sp sm ms.over
    where
      go : (sp' sm' cp cm sp sm : ℕ) → cp * 2 ^ 21 + cm * 0 + (sp * 2 ^ 63 + sm * 0) + sm' * 2 ^ 63 ≤ sp' * 2 ^ 63 + (cp * 0 + cm * 2 ^ 21 + (sp * 0 + sm * 2 ^ 63)) + 2 ^ 15 * 2 ^ 63 → cp + 2 ^ 42 * sp + 2 ^ 42 * sm' ≤ 2 ^ 42 * sp' + cm + 2 ^ 42 * sm + 2 ^ 57
      go sp' sm' cp cm sp sm h = omega (arith, h)

  by_a : 2 ^ 42 * (cp' * a) + 2 ^ 42 * (cm * a) + sp * a ≤ 2 ^ 42 * (cp * a) + sm * a + 2 ^ 42 * (cm' * a) + 2 ^ 57 * a
  by_a = rw (← mul_assoc (2 ^ 42) cp' a, ← mul_assoc (2 ^ 42) cm a, ← mul_assoc (2 ^ 42) cp a, ← mul_assoc (2 ^ 42) cm' a, ← add-mul (2 ^ 42 * cp') (2 ^ 42 * cm) a, ← add-mul (2 ^ 42 * cp' + 2 ^ 42 * cm) sp a, ← add-mul (2 ^ 42 * cp) sm a, ← add-mul (2 ^ 42 * cp + sm) (2 ^ 42 * cm') a, ← add-mul (2 ^ 42 * cp + sm + 2 ^ 42 * cm') (2 ^ 57) a) (mul-le-mul_right a cosine_step)

  by_b : cp * b + 2 ^ 42 * (sp * b) + 2 ^ 42 * (sm' * b) ≤ 2 ^ 42 * (sp' * b) + cm * b + 2 ^ 42 * (sm * b) + 2 ^ 57 * b
  by_b = rw (← mul_assoc (2 ^ 42) sp b, ← mul_assoc (2 ^ 42) sm' b, ← mul_assoc (2 ^ 42) sp' b, ← mul_assoc (2 ^ 42) sm b, ← add-mul cp (2 ^ 42 * sp) b, ← add-mul (cp + 2 ^ 42 * sp) (2 ^ 42 * sm') b, ← add-mul (2 ^ 42 * sp') cm b, ← add-mul (2 ^ 42 * sp' + cm) (2 ^ 42 * sm) b, ← add-mul (2 ^ 42 * sp' + cm + 2 ^ 42 * sm) (2 ^ 57) b) (mul-le-mul_right b sine_step)

  small : sp * a + cp * b ≤ sm * a + cm * b + 2 ^ 58 * (a + b)
  small = go (cp' * a) (cm * a) (sp * a) (cp * a) (sm * a) (cm' * a) (cp * b) (sp * b) (sm' * b) (sp' * b) (cm * b) (sm * b) by_a by_b nb' na
    where
      go : (x1 x2 x3 x4 x5 x6 y1 y2 y3 y4 y5 y6 : ℕ) → 2 ^ 42 * x1 + 2 ^ 42 * x2 + x3 ≤ 2 ^ 42 * x4 + x5 + 2 ^ 42 * x6 + 2 ^ 57 * a → y1 + 2 ^ 42 * y2 + 2 ^ 42 * y3 ≤ 2 ^ 42 * y4 + y5 + 2 ^ 42 * y6 + 2 ^ 57 * b
          → y4 + x6 ≤ y3 + x1 + 2 ^ 14 * (a + b) → x4 + y6 ≤ x2 + y2 + 2 ^ 14 * (a + b) → x3 + y1 ≤ x5 + y5 + 2 ^ 58 * (a + b)
      go x1 x2 x3 x4 x5 x6 y1 y2 y3 y4 y5 y6 h k m o = omega arith

  positive : 0 < a * a + b * b
  positive = go (a * a) (b * b) (mul-pos b0 b0)
    where
      go : (x y : ℕ) → 0 < y → 0 < x + y
      go x y h = omega arith

  rest : (p m : ℕ) → 2 ^ 60 + m ≤ p → p ≡ m + (p - m)
  rest p m l = omega arith

  big : (p m : ℕ) → 2 ^ 60 + m ≤ p → 2 ^ 60 ≤ p - m
  big p m l = omega arith

  take : (d p m f x v k : ℕ) → p ≡ m + d → p * f + x ≤ m * f + v + k → d * f + x ≤ v + k
  take d p m f x v k e h = go (d * f) (p * f) (m * f) (ap (λ (z : ℕ). z * f) e ∙ add-mul m d f) h
    where
      go : (y z w : ℕ) → z ≡ w + y → z + x ≤ w + v + k → y + x ≤ v + k
      go y z w e h = omega arith

  turn : (x y z w k : ℕ) → x + y ≤ z + w + k → y + x ≤ w + z + k
  turn x y z w k h = omega arith

  pub impossible : (2 ^ 60 + cm ≤ cp) ⊎ (2 ^ 60 + sm ≤ sp) → ⊥
  impossible (inl l) = too_far (cp - cm) sp sm a b positive (take (cp - cm) cp cm b (sp * a) (sm * a) (2 ^ 58 * (a + b)) (rest cp cm l) (turn (sp * a) (cp * b) (sm * a) (cm * b) (2 ^ 58 * (a + b)) small)) (take (cp - cm) cp cm a (sm * b) (sp * b) (2 ^ 14 * (a + b)) (rest cp cm l) na) (big cp cm l)
  impossible (inr l) =
      too_far (sp - sm) cp cm b a (subst (λ (z : ℕ). 0 < z) (add_comm (a * a) (b * b)) positive)
      (subst (λ (z : ℕ). (sp - sm) * a + cp * b ≤ cm * b + 2 ^ 58 * z) (add_comm a b) (take (sp - sm) sp sm a (cp * b) (cm * b) (2 ^ 58 * (a + b)) (rest sp sm l) small))
      (subst (λ (z : ℕ). (sp - sm) * b + cm * a ≤ cp * a + 2 ^ 14 * z) (add_comm a b) (take (sp - sm) sp sm b (cm * a) (cp * a) (2 ^ 14 * (a + b)) (rest sp sm l) nb))
      (big sp sm l)

-- ---- of the code's results at y and at y + 2 ^ 16
slack_most : (ε cp cm sp sm kc ks : ℕ) → ε ≤ 8192 → kc ≤ 2 ^ 63 → ks ≤ 2 ^ 63 → cp ≤ 9 * 2 ^ 60 → cm ≤ 9 * 2 ^ 60 → sp ≤ 9 * 2 ^ 60 → sm ≤ 9 * 2 ^ 60
    → ε * 2 ^ 63 + 2 ^ 63 + (cp * 1024 + cm * 1024 + ε * (kc + 0 + 1024) + (sp * 1024 + sm * 1024 + ε * (ks + 0 + 1024))) ≤ 2 ^ 15 * 2 ^ 63
slack_most ε cp cm sp sm kc ks e k k' a b c d = go (ε * (kc + 0 + 1024)) (ε * (ks + 0 + 1024)) (mul-le-mul e (wide kc k)) (mul-le-mul e (wide ks k'))
  where
    wide : (k : ℕ) → k ≤ 2 ^ 63 → k + 0 + 1024 ≤ 2 ^ 63 + 1024
    wide k h = omega arith

    go : (x y : ℕ) → x ≤ 8192 * (2 ^ 63 + 1024) → y ≤ 8192 * (2 ^ 63 + 1024) → ε * 2 ^ 63 + 2 ^ 63 + (cp * 1024 + cm * 1024 + x + (sp * 1024 + sm * 1024 + y)) ≤ 2 ^ 15 * 2 ^ 63
    go x y h k = omega (arith, h, k, e, a, b, c, d)

parts_most : (k c : ℕ) → c ≤ 9 * 2 ^ 60 → (plus k c ≤ 9 * 2 ^ 60) × (less k c ≤ 9 * 2 ^ 60)
parts_most zero c h = (h, zero-le)
parts_most (suc k) c h = (zero-le, h)

pub distinct : (y cn c sn s dn d tn t m e : ℕ) → y + 2 ^ 16 ≤ 2 ^ 59 → IsCircle y 5 cn c sn s → IsCircle (y + 2 ^ 16) 5 dn d tn t → Good cn c sn s
    → NearlyBelow dn d tn t m e → NearlyAbove cn c sn s m e → NearlyBelow cn c sn s m e → ⊥
distinct y cn c sn s dn d tn t m e h i j g nb' na nb =
    impossible (plus cn c) (less cn c) (plus sn s) (less sn s) (plus dn d) (less dn d) (plus tn t) (less tn t) a₀ b₀ (mul-pos (pow_pos 1074) (pow_pos 1074))
    (apart_wider (cosine_moved y (2 ^ 16) (2 ^ 58) 600 (error 5) 1024 (plus cn c) (less cn c) (plus sn s) (less sn s) (2 ^ 63) (2 ^ 21) (pow_pos 58) range (le_refl 600) here (step_state (2 ^ 16) (leb→le (2 ^ 16 * 2 ^ 27) (2 ^ 58) tt) 600 (le_refl 600)) (plus dn d) (less dn d) (plus tn t) (less tn t) there) (slack_most (error 5) (plus cn c) (less cn c) (plus sn s) (less sn s) (2 ^ 63) (2 ^ 21) error_5 (le_refl (2 ^ 63)) (leb→le (2 ^ 21) (2 ^ 63) tt) cs.0 cs.1 ss.0 ss.1))
    (apart_wider (sine_moved y (2 ^ 16) (2 ^ 58) 600 (error 5) 1024 (plus cn c) (less cn c) (plus sn s) (less sn s) (2 ^ 63) (2 ^ 21) (pow_pos 58) range (le_refl 600) here (step_state (2 ^ 16) (leb→le (2 ^ 16 * 2 ^ 27) (2 ^ 58) tt) 600 (le_refl 600)) (plus dn d) (less dn d) (plus tn t) (less tn t) there) (slack_most (error 5) (plus cn c) (less cn c) (plus sn s) (less sn s) (2 ^ 21) (2 ^ 63) error_5 (leb→le (2 ^ 21) (2 ^ 63) tt) (le_refl (2 ^ 63)) cs.0 cs.1 ss.0 ss.1))
    (nb' a₀ b₀ refl) (na a₀ b₀ refl) (nb a₀ b₀ refl) g.either
  where
    a₀ : ℕ
    a₀ = m * 2 ^ e

    b₀ : ℕ
    b₀ = 2 ^ 1074 * 2 ^ 1074

    lower : (y : ℕ) → y + 2 ^ 16 ≤ 2 ^ 59 → y ≤ 2 ^ 59
    lower y h = omega arith

    range : y + 2 ^ 16 ≤ 200 * 2 ^ 58
    range = le_trans h (leb→le (2 ^ 59) (200 * 2 ^ 58) tt)

    here : State (term y (2 ^ 58) 600) (term y (2 ^ 58) 600 0) 600 (2 ^ 63) (error 5) (plus cn c) (less cn c) (plus sn s) (less sn s)
    here = state_at y cn c sn s (lower y h) i 600 (le_refl 600)

    there : State (term (y + 2 ^ 16) (2 ^ 58) 600) (term (y + 2 ^ 16) (2 ^ 58) 600 0) 600 (2 ^ 63) (error 5) (plus dn d) (less dn d) (plus tn t) (less tn t)
    there = state_at (y + 2 ^ 16) dn d tn t h j 600 (le_refl 600)

    cs : (plus cn c ≤ 9 * 2 ^ 60) × (less cn c ≤ 9 * 2 ^ 60)
    cs = parts_most cn c g.c_most

    ss : (plus sn s ≤ 9 * 2 ^ 60) × (less sn s ≤ 9 * 2 ^ 60)
    ss = parts_most sn s g.s_most

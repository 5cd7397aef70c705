-- The state of the computation after j doublings, and how one more doubling changes it. Assumes nothing.
use mathlib.Core.Path.{◌≡◌, refl, sym, ap, ◌∙◌, subst}
use Prim.Native.Nat.{ℕ, zero, suc, ◌+◌, ◌-◌, ◌*◌, ◌^◌, ◌≤◌, ◌<◌}
use native.Mathlib.Nat.{le_trans, le_of_eq, le_refl, mul-add, mul_comm, mul_assoc, mul-le-mul_left, mul-le-mul_right, le_of_mul-le-mul_left, mul-pos, pow-suc, pow-zero, one-mul, mul-one, zero-lt-suc, one-le-pow}
use native.Mathlib.Omega.{arith}
use Rattle.circle.specs.Inside.Fixed.{Apart}
use Rattle.circle.specs.Inside.Law.{Law}
use Rattle.circle.specs.Inside.Circle.{State}
use lib.Dec.{leb→le}
use lib.Pow.{pow_pos}
use Rattle.circle.specs.Series.{Quarter, east, north, west, south, part}
use Rattle.circle.specs.Inside.Circle.{mix}
use Rattle.circle.proofs.Signed.{apart_swap}
use Rattle.circle.proofs.Level.{product, gather, finish}
use Rattle.circle.proofs.Doubling.{double_low, double_high}
use Rattle.circle.proofs.Terms.{factorial, bounded, halves, gain}

-- ---- from the 600-th term on, at arguments up to 200
many : 200 ^ 600 * 2 ^ 63 ≤ factorial 600
unfolding factorial
many = leb→le (200 ^ 600 * 2 ^ 63) (factorial 600) tt

pow_one : (k : ℕ) → 1 ^ k ≡ 1
pow_one zero = pow-zero 1
pow_one (suc k) = pow-suc 1 k ∙ ap (λ (x : ℕ). x * 1) (pow_one k)

module _ (v : ℕ → ℕ) (α β M : ℕ) (B : 0 < β) (law : Law v α β M) (small : α ≤ 200 * β) where
  small' : α * 1 ≤ 200 * β
  small' = le_trans (le_of_eq (mul-one α)) small

  half : (k : ℕ) → k < M → 400 ≤ suc k → 2 * v (suc k) ≤ v k
  half k h l = halves v α β M 200 1 B law small' k h (zero-lt-suc 199) (le_trans l (le_of_eq (sym (one-mul (suc k)))))

  down : (d : ℕ) → 600 + d ≤ M → v (600 + d) ≤ v 600
  down zero h = le_refl (v 600)
  down (suc d) h = le_trans (step (v (suc (600 + d))) (v (600 + d)) (subst (λ (x : ℕ). v (600 + suc d) ≤ v x) (refl) (le_of_eq (ap (λ (x : ℕ). v x) (shift d)))) (half (600 + d) (omega arith) (omega arith))) (down d (omega arith))
    where
      shift : (d : ℕ) → 600 + suc d ≡ suc (600 + d)
      shift d = omega arith

      step : (a b : ℕ) → v (600 + suc d) ≤ a → 2 * a ≤ b → v (600 + suc d) ≤ b
      step a b p q = omega arith

  at_600 : 600 ≤ M → v 600 * 2 ^ 63 ≤ v 0
  at_600 h =
      le_of_mul-le-mul_left {k = factorial 600}
      (le_trans (le_of_eq (sym (mul_assoc (factorial 600) (v 600) (2 ^ 63))))
      (le_trans (mul-le-mul_right (2 ^ 63) (subst (λ (x : ℕ). x * v 600 ≤ 200 ^ 600 * v 0) (ap (λ (x : ℕ). x * factorial 600) (pow_one 600) ∙ one-mul (factorial 600)) (bounded v α β M 200 1 B law small' 600 h)))
      (le_trans (le_of_eq (turn (200 ^ 600) (v 0))) (mul-le-mul_right (v 0) many))))
      positive
    where
      turn : (p w : ℕ) → p * w * 2 ^ 63 ≡ p * 2 ^ 63 * w
      turn p w = mul_assoc p w (2 ^ 63) ∙ ap (λ (x : ℕ). p * x) (mul_comm w (2 ^ 63)) ∙ sym (mul_assoc p (2 ^ 63) w)

      positive : 0 < factorial 600
      positive = le_trans (mul-pos (one-le-pow 600 200 (zero-lt-suc 199)) (pow_pos 63)) many

  pub tail_small : (N : ℕ) → 600 ≤ N → N ≤ M → v N * 2 ^ 63 ≤ v 0
  tail_small N l h = le_trans (mul-le-mul_right (2 ^ 63) (subst (λ (x : ℕ). v x ≤ v 600) (go N l) (down (N - 600) (omega arith)))) (at_600 (omega arith))
    where
      go : (N : ℕ) → 600 ≤ N → 600 + (N - 600) ≡ N
      go N l = omega arith

  pub tail_gain : (N : ℕ) (t : Quarter) → 600 ≤ N → N + N ≤ M → part v (N + N) t ≤ part v N t + v N
  tail_gain N t l h = drop (part v (N + N) t) (v (N + N)) (part v N t + v N) (gain v t N N (λ k p q. half k (omega arith) (omega arith)))
    where
      drop : (a b c : ℕ) → a + b ≤ c → a ≤ c
      drop a b c k = omega arith

-- what the code's rounded squares and products are to the exact ones
pub record Rounded (G g cp cm sp sm cp' cm' sp' sm' : ℕ) : Type 0 where
  pub cosine : Apart (cp' * G) (cm' * G) (cp * cp + cm * cm + (sp * sm + sm * sp)) (cp * cm + cm * cp + (sp * sp + sm * sm)) g
  pub sine : Apart (sp' * G) (sm' * G) (cp * sp + cm * sm + (cp * sp + cm * sm)) (cp * sm + cm * sp + (cp * sm + cm * sp)) g

same_by : {a b c d e : ℕ} {a' b' : ℕ} → a ≡ a' → b ≡ b' → Apart a b c d e → Apart a' b' c d e
same_by {a} {b} {c} {d} {e} {a'} {b'} p q h = subst (λ (x : ℕ). Apart x b' c d e) p (subst (λ (x : ℕ). Apart a x c d e) q h)

within : (x y p q e : ℕ) → p ≤ x → x ≤ p + e → q ≤ y → y ≤ q + e → Apart x y p q e
within x y p q e a b c d = record { under = omega arith; over = omega arith }

wrong_cos : (ε a b c d : ℕ) → a * ε + b * ε + ε * (a + b + ε) + (c * ε + d * ε + ε * (c + d + ε)) ≡ 2 * (ε * (a + b + (c + d) + ε))
wrong_cos ε a b c d =
    rw (mul_comm a ε, mul_comm b ε, mul_comm c ε, mul_comm d ε, mul-add ε (a + b) ε, mul-add ε (c + d) ε, mul-add ε a b, mul-add ε c d, mul-add ε (a + b + (c + d)) ε, mul-add ε (a + b) (c + d), mul-add ε a b, mul-add ε c d)
    (go (ε * a) (ε * b) (ε * c) (ε * d) (ε * ε))
  where
    go : (a b c d e : ℕ) → a + b + (a + b + e) + (c + d + (c + d + e)) ≡ 2 * (a + b + (c + d) + e)
    go a b c d e = omega arith

wrong_sin : (ε a b c d : ℕ) → a * ε + b * ε + ε * (c + d + ε) + (a * ε + b * ε + ε * (c + d + ε)) ≡ 2 * (ε * (a + b + (c + d) + ε))
wrong_sin ε a b c d =
    rw (mul_comm a ε, mul_comm b ε, mul-add ε (c + d) ε, mul-add ε c d, mul-add ε (a + b + (c + d)) ε, mul-add ε (a + b) (c + d), mul-add ε a b, mul-add ε c d)
    (go (ε * a) (ε * b) (ε * c) (ε * d) (ε * ε))
  where
    go : (a b c d e : ℕ) → a + b + (c + d + e) + (a + b + (c + d + e)) ≡ 2 * (a + b + (c + d) + e)
    go a b c d e = omega arith

module _ (v : ℕ → ℕ) (α β W N : ℕ) (B : 0 < β) (law : Law v α β (N + N)) (law' : Law (λ (k : ℕ). 2 ^ k * v k) (2 * α) β (N + N)) (small : 2 * α ≤ 200 * β) (l : 600 ≤ N) (isW : v 0 ≡ W) (pos : 0 < W) where
  abbrev w : ℕ → ℕ
  w k = 2 ^ k * v k

  first : w 0 ≡ W
  first = ap (λ (x : ℕ). x * v 0) (pow-zero 2) ∙ one-mul (v 0) ∙ isW

  in_range : N + N ≤ N + N
  in_range = le_refl (N + N)

  -- each part of the square, as one of the sums at twice the argument
  low : (t : Quarter) → W * part w N t ≤ mix (part v N) (part v N) t
  low t = subst (λ (z : ℕ). z * part w N t ≤ mix (part v N) (part v N) t) isW (double_low v α β (N + N) B law t N (omega arith))

  high : (t : Quarter) → mix (part v N) (part v N) t ≤ W * part w N t + W * w N
  high t =
      le_trans (subst (λ (z : ℕ). mix (part v N) (part v N) t ≤ z * part w (N + N) t) isW (double_high v α β (N + N) B law t N in_range))
      (le_trans (mul-le-mul_left W (tail_gain w (2 * α) β (N + N) B law' small N t l in_range)) (le_of_eq (mul-add W (part w N t) (w N))))

  between : (t t' : Quarter) → Apart (mix (part v N) (part v N) t) (mix (part v N) (part v N) t') (W * part w N t) (W * part w N t') (W * w N)
  between t t' = within (mix (part v N) (part v N) t) (mix (part v N) (part v N) t') (W * part w N t) (W * part w N t') (W * w N) (low t) (high t) (low t') (high t')

  tiny : w N * 2 ^ 63 ≤ W
  tiny = le_trans (tail_small w (2 * α) β (N + N) B law' small N l (omega arith)) (le_of_eq first)

  pub after : (ε cp cm sp sm cp' cm' sp' sm' g ε' : ℕ) → State v W N (2 ^ 63) ε cp cm sp sm → Rounded (2 ^ 63) g cp cm sp sm cp' cm' sp' sm'
      → g + 2 * (ε * (cp + cm + (sp + sm) + ε)) + 2 ^ 63 ≤ 2 ^ 63 * ε' → State w W N (2 ^ 63) ε' cp' cm' sp' sm'
  after ε cp cm sp sm cp' cm' sp' sm' g ε' s r total = record {
    cosine = finish W G (cp * cp + cm * cm + (sp * sm + sm * sp)) (cp * cm + cm * cp + (sp * sp + sm * sm)) (Pe * Pe + Pw * Pw + (Pn * Ps + Ps * Pn)) (Pe * Pw + Pw * Pe + (Pn * Pn + Ps * Ps)) (cp * ε + cm * ε + ε * (cp + cm + ε) + (sp * ε + sm * ε + ε * (sp + sm + ε))) (part w N east) (part w N west) (w N) cp' cm' g ε' pos (pow_pos 63)
        (gather (W * W) (G * G) (cp * cp + cm * cm) (sp * sm + sm * sp) (cp * cm + cm * cp) (sp * sp + sm * sm) (Pe * Pe + Pw * Pw) (Pn * Ps + Ps * Pn) (Pe * Pw + Pw * Pe) (Pn * Pn + Ps * Ps) (cp * ε + cm * ε + ε * (cp + cm + ε)) (sp * ε + sm * ε + ε * (sp + sm + ε))
        (product W G cp cm Pe Pw ε cp cm Pe Pw ε s.cosine s.cosine)
        (apart_swap (product W G sp sm Pn Ps ε sp sm Pn Ps ε s.sine s.sine)))
        (same_by (order (Pe * Pe) (Pn * Ps) (Pw * Pw) (Ps * Pn)) (order (Pe * Pw) (Pn * Pn) (Pw * Pe) (Ps * Ps)) (between east west))
        r.cosine tiny
        (subst (λ (z : ℕ). g + z + G ≤ G * ε') (sym (wrong_cos ε cp cm sp sm)) total);
    sine = finish W G (cp * sp + cm * sm + (cp * sp + cm * sm)) (cp * sm + cm * sp + (cp * sm + cm * sp)) (Pe * Pn + Pw * Ps + (Pe * Pn + Pw * Ps)) (Pe * Ps + Pw * Pn + (Pe * Ps + Pw * Pn)) (cp * ε + cm * ε + ε * (sp + sm + ε) + (cp * ε + cm * ε + ε * (sp + sm + ε))) (part w N north) (part w N south) (w N) sp' sm' g ε' pos (pow_pos 63)
        (gather (W * W) (G * G) (cp * sp + cm * sm) (cp * sp + cm * sm) (cp * sm + cm * sp) (cp * sm + cm * sp) (Pe * Pn + Pw * Ps) (Pe * Pn + Pw * Ps) (Pe * Ps + Pw * Pn) (Pe * Ps + Pw * Pn) (cp * ε + cm * ε + ε * (sp + sm + ε)) (cp * ε + cm * ε + ε * (sp + sm + ε)) once once)
        (same_by (order_north (Pe * Pn) (Pn * Pe) (Pw * Ps) (Ps * Pw) (mul_comm Pn Pe) (mul_comm Ps Pw)) (order_south (Pe * Ps) (Pn * Pw) (Pw * Pn) (Ps * Pe) (mul_comm Pn Pw) (mul_comm Ps Pe)) (between north south))
        r.sine tiny
        (subst (λ (z : ℕ). g + z + G ≤ G * ε') (sym (wrong_sin ε cp cm sp sm)) total);
  }
    where
      G : ℕ
      G = 2 ^ 63

      Pe : ℕ
      Pe = part v N east

      Pn : ℕ
      Pn = part v N north

      Pw : ℕ
      Pw = part v N west

      Ps : ℕ
      Ps = part v N south

      once : Apart (W * W * (cp * sp + cm * sm)) (W * W * (cp * sm + cm * sp)) (G * G * (Pe * Pn + Pw * Ps)) (G * G * (Pe * Ps + Pw * Pn)) (W * W * (cp * ε + cm * ε + ε * (sp + sm + ε)))
      once = product W G cp cm Pe Pw ε sp sm Pn Ps ε s.cosine s.sine

      order : (a b c d : ℕ) → a + b + c + d ≡ a + c + (b + d)
      order a b c d = omega arith

      order_north : (a b c d : ℕ) → b ≡ a → d ≡ c → a + b + c + d ≡ a + c + (a + c)
      order_north a b c d p q = omega arith

      order_south : (a b c d : ℕ) → b ≡ c → d ≡ a → a + b + c + d ≡ a + c + (a + c)
      order_south a b c d p q = omega arith

-- From the code's step to `Rounded`, and the bounds of size and of error that hold through all doublings. Assumes nothing.
use mathlib.Core.Path.{◌≡◌, refl, sym, ap, ◌∙◌}
use Prim.Native.Nat.{ℕ, zero, suc, ◌+◌, ◌-◌, ◌*◌, ◌%◌, ◌^◌, ◌≤◌}
use native.Mathlib.Nat.{le_trans, le_of_eq, le_of_lt, le_refl, lt_of_not-le, add_comm, add-le-add, mul-add, add-mul, mul_comm, mul_assoc, mul_left_comm, mul-le-mul, mul-le-mul_left, mul-le-mul_right, zero-mul, mul-zero}
use native.Mathlib.Decide.{dec_le}
use native.Mathlib.Omega.{arith}
use Rattle.circle.specs.Inside.Fixed.{Apart}
use Rattle.circle.specs.Inside.Signed.{plus, less}
use Rattle.circle.specs.Inside.Circle.{IsDoubled}
use Rattle.circle.proofs.Onward.{Rounded}

-- ---- the signs
-- squares do not see them
square_of : (k c : ℕ) → plus k c * plus k c + less k c * less k c ≡ c * c
square_of zero c = go (c * c) (0 * 0) refl
  where
    go : (x y : ℕ) → y ≡ 0 → x + y ≡ x
    go x y e = omega arith
square_of (suc k) c = go (c * c) (0 * 0) refl
  where
    go : (x y : ℕ) → y ≡ 0 → y + x ≡ x
    go x y e = omega arith

none_of : (k c : ℕ) → plus k c * less k c + less k c * plus k c ≡ 0
none_of zero c = go (c * 0) (0 * c) (mul-zero c) (zero-mul c)
  where
    go : (x y : ℕ) → x ≡ 0 → y ≡ 0 → x + y ≡ 0
    go x y e f = omega arith
none_of (suc k) c = go (0 * c) (c * 0) (zero-mul c) (mul-zero c)
  where
    go : (x y : ℕ) → x ≡ 0 → y ≡ 0 → x + y ≡ 0
    go x y e f = omega arith

cosine_of : (cn c sn s cn' c' : ℕ) → Apart (plus cn' c' * 2 ^ 63) (less cn' c' * 2 ^ 63) (c * c) (s * s) (4 * 2 ^ 63)
    → Apart (plus cn' c' * 2 ^ 63) (less cn' c' * 2 ^ 63) (plus cn c * plus cn c + less cn c * less cn c + (plus sn s * less sn s + less sn s * plus sn s)) (plus cn c * less cn c + less cn c * plus cn c + (plus sn s * plus sn s + less sn s * less sn s)) (8 * 2 ^ 63)
cosine_of cn c sn s cn' c' h = rw (square_of cn c, square_of sn s, none_of cn c, none_of sn s) (go (plus cn' c' * 2 ^ 63) (less cn' c' * 2 ^ 63) (c * c) (s * s) h)
  where
    go : (p m P Q : ℕ) → Apart p m P Q (4 * 2 ^ 63) → Apart p m (P + 0) (0 + Q) (8 * 2 ^ 63)
    go p m P Q h = record { under = omega (arith, h.under); over = omega (arith, h.over) }

-- the product's sign
same_sign : (c s s' : ℕ) → s' * 2 ^ 63 ≤ 2 * (c * s) → 2 * (c * s) ≤ (s' + 8) * 2 ^ 63 → Apart (s' * 2 ^ 63) (0 * 2 ^ 63) (c * s + 0 + (c * s + 0)) (0 + 0 + (0 + 0)) (8 * 2 ^ 63)
same_sign c s s' l h = go (c * s) l h
  where
    go : (x : ℕ) → s' * 2 ^ 63 ≤ 2 * x → 2 * x ≤ (s' + 8) * 2 ^ 63 → Apart (s' * 2 ^ 63) (0 * 2 ^ 63) (x + 0 + (x + 0)) (0 + 0 + (0 + 0)) (8 * 2 ^ 63)
    go x l h = record { under = omega arith; over = omega arith }

sine_of : (cn c sn s s' : ℕ) → cn ≤ 1 → sn ≤ 1 → s' * 2 ^ 63 ≤ 2 * (c * s) → 2 * (c * s) ≤ (s' + 8) * 2 ^ 63
    → Apart (plus ((cn + sn) % 2) s' * 2 ^ 63) (less ((cn + sn) % 2) s' * 2 ^ 63) (plus cn c * plus sn s + less cn c * less sn s + (plus cn c * plus sn s + less cn c * less sn s)) (plus cn c * less sn s + less cn c * plus sn s + (plus cn c * less sn s + less cn c * plus sn s)) (8 * 2 ^ 63)
sine_of zero c zero s s' p q l h = go (c * s) (c * 0) (0 * s) (mul-zero c) (zero-mul s) l h
  where
    go : (x y z : ℕ) → y ≡ 0 → z ≡ 0 → s' * 2 ^ 63 ≤ 2 * x → 2 * x ≤ (s' + 8) * 2 ^ 63 → Apart (s' * 2 ^ 63) (0 * 2 ^ 63) (x + 0 * 0 + (x + 0 * 0)) (y + z + (y + z)) (8 * 2 ^ 63)
    go x y z e f l h = record { under = omega arith; over = omega arith }
sine_of zero c (suc zero) s s' p q l h = go (c * s) (c * 0) (0 * s) (mul-zero c) (zero-mul s) l h
  where
    go : (x y z : ℕ) → y ≡ 0 → z ≡ 0 → s' * 2 ^ 63 ≤ 2 * x → 2 * x ≤ (s' + 8) * 2 ^ 63 → Apart (0 * 2 ^ 63) (s' * 2 ^ 63) (y + z + (y + z)) (x + 0 * 0 + (x + 0 * 0)) (8 * 2 ^ 63)
    go x y z e f l h = record { under = omega arith; over = omega arith }
sine_of (suc zero) c zero s s' p q l h = go (c * s) (0 * s) (c * 0) (zero-mul s) (mul-zero c) l h
  where
    go : (x y z : ℕ) → y ≡ 0 → z ≡ 0 → s' * 2 ^ 63 ≤ 2 * x → 2 * x ≤ (s' + 8) * 2 ^ 63 → Apart (0 * 2 ^ 63) (s' * 2 ^ 63) (y + z + (y + z)) (0 * 0 + x + (0 * 0 + x)) (8 * 2 ^ 63)
    go x y z e f l h = record { under = omega arith; over = omega arith }
sine_of (suc zero) c (suc zero) s s' p q l h = go (c * s) (0 * s) (c * 0) (zero-mul s) (mul-zero c) l h
  where
    go : (x y z : ℕ) → y ≡ 0 → z ≡ 0 → s' * 2 ^ 63 ≤ 2 * x → 2 * x ≤ (s' + 8) * 2 ^ 63 → Apart (s' * 2 ^ 63) (0 * 2 ^ 63) (0 * 0 + x + (0 * 0 + x)) (y + z + (y + z)) (8 * 2 ^ 63)
    go x y z e f l h = record { under = omega arith; over = omega arith }
sine_of (suc (suc k)) c sn s s' p q l h = absurd (omega arith)
sine_of zero c (suc (suc k)) s s' p q l h = absurd (omega arith)
sine_of (suc zero) c (suc (suc k)) s s' p q l h = absurd (omega arith)

pub rounded_of : (cn c sn s cn' c' sn' s' : ℕ) → cn ≤ 1 → sn ≤ 1 → IsDoubled cn c sn s cn' c' sn' s'
    → Rounded (2 ^ 63) (8 * 2 ^ 63) (plus cn c) (less cn c) (plus sn s) (less sn s) (plus cn' c') (less cn' c') (plus sn' s') (less sn' s')
rounded_of cn c sn s cn' c' sn' s' p q t = record {
  cosine = cosine_of cn c sn s cn' c' t.cosine;
  sine = rw t.sine_sign (sine_of cn c sn s s' p q t.sine_low t.sine_high);
}

-- ---- the sizes
-- d is at most how far X and Y are apart
apart_square : (X Y d : ℕ) → d + Y ≤ X → d * d + 4 * (X * Y) ≤ (X + Y) * (X + Y)
apart_square X Y d h = go (X - Y) (omega arith) (omega arith)
  where
    go : (e : ℕ) → X ≡ Y + e → d ≤ e → d * d + 4 * (X * Y) ≤ (X + Y) * (X + Y)
    go e p q =
        le_trans (sums (d * d) (e * e) (4 * (X * Y)) (mul-le-mul q q))
        (le_of_eq (rw (p, add-mul Y e Y, add-mul (Y + e) Y (Y + e + Y), mul-add (Y + e) (Y + e) Y, mul-add Y (Y + e) Y, mul-add Y Y e, add-mul Y e (Y + e), mul-add Y Y e, mul-add e Y e, add-mul Y e Y, mul_comm e Y) (close (Y * Y) (Y * e) (e * e))))
      where
        sums : (a b c : ℕ) → a ≤ b → a + c ≤ b + c
        sums a b c l = omega arith

        close : (a b c : ℕ) → c + 4 * (a + b) ≡ a + b + (b + c) + (a + b) + (a + b + a)
        close a b c = omega arith

grown : (x z X Y k d : ℕ) → x ≤ d + k → d ≤ X + Y → d * d + 4 * (X * Y) ≤ (X + Y) * (X + Y) → z * z ≤ 4 * (X * Y) → x * x + z * z ≤ (X + Y + k) * (X + Y + k)
grown x z X Y k d h l q r =
    le_trans (add-le-add (mul-le-mul h h) r)
    (le_trans (le_of_eq (ap (λ (y : ℕ). y + 4 * (X * Y)) (square d k)))
    (le_trans (sums (d * d) (4 * (X * Y)) ((X + Y) * (X + Y)) (2 * (d * k)) (2 * ((X + Y) * k)) (k * k) q (mul-le-mul_left 2 (mul-le-mul_right k l)))
    (le_of_eq (sym (square (X + Y) k)))))
  where
    square : (a b : ℕ) → (a + b) * (a + b) ≡ a * a + 2 * (a * b) + b * b
    square a b = rw (add-mul a b (a + b), mul-add a a b, mul-add b a b, mul_comm b a) (go (a * a) (a * b) (b * b))
      where
        go : (p q r : ℕ) → p + q + (q + r) ≡ p + 2 * q + r
        go p q r = omega arith

    sums : (a b c e f g : ℕ) → a + b ≤ c → e ≤ f → a + e + g + b ≤ c + f + g
    sums a b c e f g u v = omega arith

product_square : (c s z : ℕ) → z ≤ 2 * (c * s) → z * z ≤ 4 * (c * c * (s * s))
product_square c s z h = le_trans (mul-le-mul h h) (le_of_eq (turn (c * s) ∙ ap (λ (x : ℕ). 4 * x) (simp (mul_assoc, mul_left_comm))))
  where
    turn : (x : ℕ) → 2 * x * (2 * x) ≡ 4 * (x * x)
    turn x = simp (mul_assoc, mul_left_comm) (omega arith)

pub sizes : (cn c sn s cn' c' sn' s' : ℕ) → IsDoubled cn c sn s cn' c' sn' s' → c' * 2 ^ 63 * (c' * 2 ^ 63) + s' * 2 ^ 63 * (s' * 2 ^ 63) ≤ (c * c + s * s + 4 * 2 ^ 63) * (c * c + s * s + 4 * 2 ^ 63)
sizes cn c sn s zero c' sn' s' t = grown (c' * 2 ^ 63) (s' * 2 ^ 63) (c * c) (s * s) (4 * 2 ^ 63) (c * c - s * s) (near (c' * 2 ^ 63) (c * c) (s * s) t.cosine.under) (within (c * c) (s * s)) (either (c * c) (s * s)) (product_square c s (s' * 2 ^ 63) t.sine_low)
  where
    near : (x X Y : ℕ) → x + Y ≤ X + 0 * 2 ^ 63 + 4 * 2 ^ 63 → x ≤ X - Y + 4 * 2 ^ 63
    near x X Y h = omega arith

    within : (X Y : ℕ) → X - Y ≤ X + Y
    within X Y = omega arith

    either : (X Y : ℕ) → (X - Y) * (X - Y) + 4 * (X * Y) ≤ (X + Y) * (X + Y)
    either X Y = elim (dec_le Y X) [ yes y ↦ apart_square X Y (X - Y) (omega arith) | no f ↦ other (le_of_lt (lt_of_not-le f)) ]
      where
        other : X ≤ Y → (X - Y) * (X - Y) + 4 * (X * Y) ≤ (X + Y) * (X + Y)
        other l = le_trans (zeroes (X - Y) (omega arith)) (le_trans (apart_square Y X 0 (omega arith)) (le_of_eq (ap (λ (z : ℕ). z * z) (add_comm Y X))))
          where
            zeroes : (e : ℕ) → e ≡ 0 → e * e + 4 * (X * Y) ≤ 0 * 0 + 4 * (Y * X)
            zeroes e p = rw (p, mul_comm X Y) (le_refl (0 * 0 + 4 * (Y * X)))
sizes cn c sn s (suc zero) c' sn' s' t =
    le_trans (grown (c' * 2 ^ 63) (s' * 2 ^ 63) (s * s) (c * c) (4 * 2 ^ 63) (s * s - c * c) (near (c' * 2 ^ 63) (c * c) (s * s) t.cosine.over) (within (s * s) (c * c)) (either (s * s) (c * c)) (le_trans (product_square c s (s' * 2 ^ 63) t.sine_low) (le_of_eq (ap (λ (x : ℕ). 4 * x) (mul_comm (c * c) (s * s))))))
    (le_of_eq (ap (λ (x : ℕ). (x + 4 * 2 ^ 63) * (x + 4 * 2 ^ 63)) (add_comm (s * s) (c * c))))
  where
    near : (x X Y : ℕ) → X + x ≤ 0 * 2 ^ 63 + Y + 4 * 2 ^ 63 → x ≤ Y - X + 4 * 2 ^ 63
    near x X Y h = omega arith

    within : (X Y : ℕ) → X - Y ≤ X + Y
    within X Y = omega arith

    either : (X Y : ℕ) → (X - Y) * (X - Y) + 4 * (X * Y) ≤ (X + Y) * (X + Y)
    either X Y = elim (dec_le Y X) [ yes y ↦ apart_square X Y (X - Y) (omega arith) | no f ↦ other (le_of_lt (lt_of_not-le f)) ]
      where
        other : X ≤ Y → (X - Y) * (X - Y) + 4 * (X * Y) ≤ (X + Y) * (X + Y)
        other l = le_trans (zeroes (X - Y) (omega arith)) (le_trans (apart_square Y X 0 (omega arith)) (le_of_eq (ap (λ (z : ℕ). z * z) (add_comm Y X))))
          where
            zeroes : (e : ℕ) → e ≡ 0 → e * e + 4 * (X * Y) ≤ 0 * 0 + 4 * (Y * X)
            zeroes e p = rw (p, mul_comm X Y) (le_refl (0 * 0 + 4 * (Y * X)))
sizes cn c sn s (suc (suc k)) c' sn' s' t = absurd (go t.sign)
  where
    go : suc (suc k) ≤ 1 → ⊥
    go h = omega arith

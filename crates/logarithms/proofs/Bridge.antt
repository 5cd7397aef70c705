-- From the logarithms of whole numbers to those of doubles. F stands for `fine`, which is never opened here. Assumes nothing.
use mathlib.Core.Path.{◌≡◌, sym, ap, ◌∙◌}
use Prim.Native.Nat.{ℕ, ◌+◌, ◌*◌, ◌^◌, ◌≤◌, ◌<◌}
use native.Mathlib.Nat.{le_trans, le_of_eq, mul_comm, mul-one, one-mul, zero-mul, mul_right_comm, mul-pos, mul-le-mul, mul-le-mul_left, mul-le-mul_right, le_of_mul-le-mul_right, pow-le-pow_left, pow-le-pow_right, zero-lt-suc, add-mul, pow-zero}
use native.Mathlib.Omega.{arith}
use lib.Pow.{pow-add, pow_pos, pow_mono}
use lib.Dec.{T}
use lib.Ieee.{Float}
use lib.Ieee.Scale.{finite}
use lib.Ieee.Positive.{num, den}
use Rattle.circle.specs.Within.{plus, less}
use Rattle.logarithms.specs.Log10.{Near}
use Rattle.circle.specs.Inside.Fixed.{Lies}
use Rattle.logarithms.specs.Inside.Logarithm.{fine, BinaryLog, TenLog}
use Rattle.logarithms.proofs.Powers.{pow_of_pow, pow_of_mul, root_le, power_pos}

-- ---- from Z / D to an equal fraction a / c
moved : (a c Z D S T F : ℕ) → 0 < D → a * D ≡ Z * c → Z ^ F * S ≤ T * D ^ F → a ^ F * S ≤ T * c ^ F
moved a c Z D S T F p e h =
    le_of_mul-le-mul_right {k = D ^ F}
    (le_trans (le_of_eq (mul_right_comm (a ^ F) S (D ^ F)))
    (le_trans (le_of_eq (ap (λ (x : ℕ). x * S) raised))
    (le_trans (le_of_eq (mul_right_comm (Z ^ F) (c ^ F) S))
    (le_trans (mul-le-mul_right (c ^ F) h) (le_of_eq (mul_right_comm T (D ^ F) (c ^ F)))))))
    (power_pos D F p)
  where
    raised : a ^ F * D ^ F ≡ Z ^ F * c ^ F
    raised = sym (pow_of_mul a D F) ∙ ap (λ (x : ℕ). x ^ F) e ∙ pow_of_mul Z c F

-- ---- from exponents F, Q, S to a fourth of their multiples by d
fourth : (a c F Q S n q s d : ℕ) → F * d ≡ n * 4 → S * d + q * 4 ≤ s * 4 + Q * d → a ^ F * 10 ^ Q ≤ 10 ^ S * c ^ F → a ^ n * 10 ^ q ≤ 10 ^ s * c ^ n
fourth a c F Q S n q s d i j h =
    root_le (a ^ n * 10 ^ q) (10 ^ s * c ^ n) 4 (zero-lt-suc 3)
    (le_of_mul-le-mul_right {k = 10 ^ (Q * d)}
    (le_trans (le_of_eq (ap (λ (x : ℕ). x * 10 ^ (Q * d)) (both (a ^ n) (10 ^ q) (a ^ (F * d)) (10 ^ (q * 4)) (raised a) (pow_of_pow 10 q 4)) ∙ mul_right_comm (a ^ (F * d)) (10 ^ (q * 4)) (10 ^ (Q * d))))
    (le_trans (mul-le-mul_right (10 ^ (q * 4)) powers)
    (le_trans (le_of_eq (mul_right_comm (10 ^ (S * d)) (c ^ (F * d)) (10 ^ (q * 4)) ∙ ap (λ (x : ℕ). x * c ^ (F * d)) (sym (pow-add 10 (S * d) (q * 4)))))
    (le_trans (mul-le-mul_right (c ^ (F * d)) (pow-le-pow_right (zero-lt-suc 9) j))
    (le_of_eq (ap (λ (x : ℕ). x * c ^ (F * d)) (pow-add 10 (s * 4) (Q * d)) ∙ mul_right_comm (10 ^ (s * 4)) (10 ^ (Q * d)) (c ^ (F * d)) ∙ ap (λ (x : ℕ). x * 10 ^ (Q * d)) (sym (both (10 ^ s) (c ^ n) (10 ^ (s * 4)) (c ^ (F * d)) (pow_of_pow 10 s 4) (raised c)))))))))
    (power_pos 10 (Q * d) (zero-lt-suc 9)))
  where
    raised : (b : ℕ) → (b ^ n) ^ 4 ≡ b ^ (F * d)
    raised b = pow_of_pow b n 4 ∙ ap (λ (x : ℕ). b ^ x) (sym i)

    both : (u v x y : ℕ) → u ^ 4 ≡ x → v ^ 4 ≡ y → (u * v) ^ 4 ≡ x * y
    both u v x y e f = pow_of_mul u v 4 ∙ ap (λ (z : ℕ). z * v ^ 4) e ∙ ap (λ (z : ℕ). x * z) f

    powers : a ^ (F * d) * 10 ^ (Q * d) ≤ 10 ^ (S * d) * c ^ (F * d)
    powers =
        le_trans (le_of_eq (sym (pow_of_mul (a ^ F) (10 ^ Q) d ∙ ap (λ (x : ℕ). x * (10 ^ Q) ^ d) (pow_of_pow a F d) ∙ ap (λ (x : ℕ). a ^ (F * d) * x) (pow_of_pow 10 Q d))))
        (le_trans (pow-le-pow_left h d) (le_of_eq (pow_of_mul (10 ^ S) (c ^ F) d ∙ ap (λ (x : ℕ). x * (c ^ F) ^ d) (pow_of_pow 10 S d) ∙ ap (λ (x : ℕ). 10 ^ (S * d) * x) (pow_of_pow c F d))))

fine_of : (d : ℕ) → fine * d ≡ d * 2 ^ 20 * 4
unfolding fine
fine_of d = omega arith

turned : (a b c d : ℕ) → a * b ≡ c * d → d * c ≡ b * a
turned a b c d e = mul_comm d c ∙ sym e ∙ mul_comm a b

-- log x lies from (A - B) / fine to (E - C) / fine, Z / D being x, and r is at most 4 / fine above the former and below the latter
near_of : (x r : Float) (Z D A B C E : ℕ) → 0 < D → 0 < Z → num x * D ≡ Z * den x → T (finite r)
    → D ^ fine * 10 ^ A ≤ 10 ^ B * Z ^ fine → Z ^ fine * 10 ^ C ≤ 10 ^ E * D ^ fine
    → plus r * 2 ^ 22 + B * den r ≤ A * den r + 4 * den r + less r * 2 ^ 22
    → E * den r + less r * 2 ^ 22 ≤ plus r * 2 ^ 22 + C * den r + 4 * den r
    → Near x r
near_of x r Z D A B C E p z e f h k u l =
    let d = den r in
    record {
      number = f;
      below = fourth (num x) (den x) fine C E (d * 2 ^ 20) (less r * 2 ^ 20) (plus r * 2 ^ 20 + d) d (fine_of d) (most (plus r) (less r) d (C * d) (E * d) l) (moved (num x) (den x) Z D (10 ^ C) (10 ^ E) fine p e k);
      above = le_trans (le_of_eq (mul_comm (10 ^ (plus r * 2 ^ 20)) (den x ^ (d * 2 ^ 20)))) (fourth (den x) (num x) fine A B (d * 2 ^ 20) (plus r * 2 ^ 20) (less r * 2 ^ 20 + d) d (fine_of d) (least (plus r) (less r) d (A * d) (B * d) u) (moved (den x) (num x) D Z (10 ^ A) (10 ^ B) fine z (turned (num x) D Z (den x) e) h));
    }
  where
    most : (a b d c e : ℕ) → e + b * 2 ^ 22 ≤ a * 2 ^ 22 + c + 4 * d → e + b * 2 ^ 20 * 4 ≤ (a * 2 ^ 20 + d) * 4 + c
    most a b d c e h = omega arith

    least : (a b d c e : ℕ) → a * 2 ^ 22 + e ≤ c + 4 * d + b * 2 ^ 22 → e + a * 2 ^ 20 * 4 ≤ (b * 2 ^ 20 + d) * 4 + c
    least a b d c e h = omega arith

-- ---- the logarithm of Z = m * 2 ^ e and of D = 2 ^ l, in units of 1 / fine
abbrev count : ℕ → ℕ → ℕ
count e k = e * fine + k

raise : (m e : ℕ) → (m * 2 ^ e) ^ fine ≡ 2 ^ (e * fine) * m ^ fine
raise m e = pow_of_mul m (2 ^ e) fine ∙ ap (λ (x : ℕ). m ^ fine * x) (pow_of_pow 2 e fine) ∙ mul_comm (m ^ fine) (2 ^ (e * fine))

raised_low : (m e k : ℕ) → BinaryLog m k → 2 ^ count e k ≤ (m * 2 ^ e) ^ fine
raised_low m e k b = le_trans (le_of_eq (pow-add 2 (e * fine) k)) (le_trans (mul-le-mul_left (2 ^ (e * fine)) b.low) (le_of_eq (sym (raise m e))))

raised_high : (m e k : ℕ) → BinaryLog m k → (m * 2 ^ e) ^ fine ≤ 2 ^ (count e k + 2)
raised_high m e k b =
    le_trans (le_of_eq (raise m e))
    (le_trans (mul-le-mul_left (2 ^ (e * fine)) b.high)
    (le_of_eq (sym (pow-add 2 (e * fine) (k + 2)) ∙ ap (λ (x : ℕ). 2 ^ x) (go (e * fine)))))
  where
    go : (w : ℕ) → w + (k + 2) ≡ w + k + 2
    go w = omega arith

-- t is the count of Z, w that of D, and u their difference
over_high : (Z t w u R X : ℕ) → Z ≤ 2 ^ (t + 2) → X ≡ 2 ^ w → t ≡ w + u → TenLog u R → Z * 10 ^ 0 ≤ 10 ^ (R + 3) * X
over_high Z t w u R X z v e l =
    le_trans (le_of_eq (ap (λ (x : ℕ). Z * x) (pow-zero 10) ∙ mul-one Z))
    (le_trans z
    (le_trans (le_of_eq (ap (λ (x : ℕ). 2 ^ x) sum ∙ pow-add 2 (u + 2) w))
    (le_trans (mul-le-mul_right (2 ^ w) l.high) (le_of_eq (ap (λ (x : ℕ). 10 ^ (R + 3) * x) (sym v))))))
  where
    sum : t + 2 ≡ u + 2 + w
    sum = omega arith

over_low : (Z t w u R X : ℕ) → 2 ^ t ≤ Z → X ≡ 2 ^ w → t ≡ w + u → TenLog u R → X * 10 ^ R ≤ 10 ^ 0 * Z
over_low Z t w u R X z v e l =
    le_trans (le_of_eq (ap (λ (x : ℕ). x * 10 ^ R) v))
    (le_trans (mul-le-mul_left (2 ^ w) l.low)
    (le_trans (le_of_eq (sym (pow-add 2 w u) ∙ ap (λ (x : ℕ). 2 ^ x) (sym e)))
    (le_trans z (le_of_eq (sym (ap (λ (x : ℕ). x * Z) (pow-zero 10) ∙ one-mul Z))))))

under_high : (Z t w u R X : ℕ) → Z ≤ 2 ^ (t + 2) → X ≡ 2 ^ w → t + u ≡ w → TenLog u R → Z * 10 ^ R ≤ 10 ^ 1 * X
under_high Z t w u R X z v e l =
    le_trans (mul-le-mul z l.low)
    (le_trans (le_of_eq (sym (pow-add 2 (t + 2) u) ∙ ap (λ (x : ℕ). 2 ^ x) sum ∙ pow-add 2 2 w))
    (le_trans (mul-le-mul_right (2 ^ w) few) (le_of_eq (ap (λ (x : ℕ). 10 ^ 1 * x) (sym v)))))
  where
    sum : t + 2 + u ≡ 2 + w
    sum = omega arith

    few : 2 ^ 2 ≤ 10 ^ 1
    few = omega arith

under_low : (Z t w u R X : ℕ) → 2 ^ t ≤ Z → X ≡ 2 ^ w → t + u ≡ w → TenLog u R → X * 10 ^ 0 ≤ 10 ^ (R + 3) * Z
under_low Z t w u R X z v e l =
    le_trans (le_of_eq (ap (λ (x : ℕ). X * x) (pow-zero 10) ∙ mul-one X ∙ v ∙ ap (λ (x : ℕ). 2 ^ x) sum ∙ pow-add 2 u t))
    (mul-le-mul (le_trans (pow_mono more) l.high) z)
  where
    sum : w ≡ u + t
    sum = omega arith

    more : u ≤ u + 2
    more = omega arith

-- ---- both together, for x = m * 2 ^ e / 2 ^ 2148
counts_under : (e k u : ℕ) → e * 4194304 + k + u ≡ 9009364992 → count e k + u ≡ 2148 * fine
unfolding fine
counts_under e k u h = omega arith

counts_over : (e k u : ℕ) → e * 4194304 + k ≡ 9009364992 + u → count e k ≡ 2148 * fine + u
unfolding fine
counts_over e k u h = omega arith

top : (2 ^ 1074 * 2 ^ 1074) ^ fine ≡ 2 ^ (2148 * fine)
top = pow_of_pow 2 2148 fine

module _ (x r : Float) (m e k u R : ℕ) (is : num x * (2 ^ 1074 * 2 ^ 1074) ≡ m * 2 ^ e * den x) (least : 2 ^ 52 ≤ m) (b : BinaryLog m k) (l : TenLog u R) where
  z_pos : 0 < m * 2 ^ e
  z_pos =
      let p : 0 < m = omega arith in
      mul-pos p (pow_pos e)

  d_pos : 0 < 2 ^ 1074 * 2 ^ 1074
  d_pos = mul-pos (pow_pos 1074) (pow_pos 1074)

  -- below 1: r lies from -(R + 3) / fine to -T / fine, T being R less 1
  pub near_under : (T : ℕ) → R ≤ T + 1 → e * 4194304 + k + u ≡ 9009364992 → Lies r 0 (R + 3) 0 T (2 ^ 22) → Near x r
  near_under T last h v =
      near_of x r (m * 2 ^ e) (2 ^ 1074 * 2 ^ 1074) 0 (R + 3) R 1 d_pos z_pos is v.number
      (under_low ((m * 2 ^ e) ^ fine) (count e k) (2148 * fine) u R ((2 ^ 1074 * 2 ^ 1074) ^ fine) (raised_low m e k b) top (counts_under e k u h) l)
      (under_high ((m * 2 ^ e) ^ fine) (count e k) (2148 * fine) u R ((2 ^ 1074 * 2 ^ 1074) ^ fine) (raised_high m e k b) top (counts_under e k u h) l)
      (upper (plus r * 2 ^ 22) (less r * 2 ^ 22) ((R + 3) * den r) (T * den r) (0 * den r) (den r) (zero-mul (den r)) (le_trans (mul-le-mul_right (den r) (more R T last)) (le_of_eq (add-mul T 4 (den r)))) v.upto)
      (lower (plus r * 2 ^ 22) (less r * 2 ^ 22) (R * den r) (0 * den r) (den r) (zero-mul (den r)) (le_trans v.from (le_of_eq (ap (λ (z : ℕ). plus r * 2 ^ 22 + z) (add-mul R 3 (den r))))))
    where
      more : (R T : ℕ) → R ≤ T + 1 → R + 3 ≤ T + 4
      more R T h = omega arith

      upper : (p q y t o d : ℕ) → o ≡ 0 → y ≤ t + 4 * d → p + t ≤ o + q → p + y ≤ o + 4 * d + q
      upper p q y t o d z h k = omega arith

      lower : (p q y o d : ℕ) → o ≡ 0 → o + q ≤ p + (y + 3 * d) → 1 * d + q ≤ p + y + 4 * d
      lower p q y o d z h = omega arith

  -- from 1 on: r lies from R / fine to (R + 3) / fine
  pub near_over : e * 4194304 + k ≡ 9009364992 + u → Lies r R 0 (R + 3) 0 (2 ^ 22) → Near x r
  near_over h v =
      near_of x r (m * 2 ^ e) (2 ^ 1074 * 2 ^ 1074) R 0 0 (R + 3) d_pos z_pos is v.number
      (over_low ((m * 2 ^ e) ^ fine) (count e k) (2148 * fine) u R ((2 ^ 1074 * 2 ^ 1074) ^ fine) (raised_low m e k b) top (counts_over e k u h) l)
      (over_high ((m * 2 ^ e) ^ fine) (count e k) (2148 * fine) u R ((2 ^ 1074 * 2 ^ 1074) ^ fine) (raised_high m e k b) top (counts_over e k u h) l)
      (upper (plus r * 2 ^ 22 + 0 * den r) (less r * 2 ^ 22) (R * den r) (den r) (le_trans v.upto (le_of_eq (ap (λ (z : ℕ). z + less r * 2 ^ 22) (add-mul R 3 (den r))))))
      (le_trans (le_of_eq (ap (λ (z : ℕ). z + less r * 2 ^ 22) (add-mul R 3 (den r)))) (lower (plus r * 2 ^ 22 + 0 * den r) (less r * 2 ^ 22) (R * den r) (den r) v.from))
    where
      upper : (p q y d : ℕ) → p ≤ y + 3 * d + q → p ≤ y + 4 * d + q
      upper p q y d h = omega arith

      lower : (p q y d : ℕ) → y + q ≤ p → y + 3 * d + q ≤ p + 4 * d
      lower p q y d h = omega arith

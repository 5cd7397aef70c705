-- What a doubling does to the sizes, and how the code's step follows from its three products. Assumes nothing.
use mathlib.Core.Path.{◌≡◌, refl, ap}
use Prim.Native.Nat.{ℕ, suc, ◌+◌, ◌-◌, ◌*◌, ◌%◌, ◌^◌, ◌≤◌, ◌<◌}
use native.Mathlib.Nat.{le_trans, le_of_eq, le_of_lt, lt_irrefl, lt_of_lt_of_le, lt_of_not-le, add_comm, mul-add, add-mul, mul_comm, mul_assoc, mul-le-mul, mul-le-mul_left}
use native.Mathlib.Decide.{dec_le}
use native.Mathlib.Omega.{arith}
use Rattle.circle.specs.Inside.Fixed.{Apart, IsHigh}
use Rattle.circle.specs.Inside.Circle.{IsDoubled}

-- 2 * c * s ≤ c ^ 2 + s ^ 2
pub twice_le : (c s : ℕ) → 2 * (c * s) ≤ c * c + s * s
twice_le c s = elim (dec_le c s) [ yes y ↦ go c s (s - c) (omega arith) | no f ↦ le_trans (le_of_eq (ap (λ (x : ℕ). 2 * x) (mul_comm c s))) (le_trans (go s c (c - s) (rest (le_of_lt (lt_of_not-le f)))) (le_of_eq (add_comm (s * s) (c * c)))) ]
  where
    rest : s ≤ c → c ≡ s + (c - s)
    rest l = omega arith

    go : (c s d : ℕ) → s ≡ c + d → 2 * (c * s) ≤ c * c + s * s
    go c s d e = rw (e, mul-add c c d, add-mul c d (c + d), mul-add c c d, mul-add d c d, mul_comm d c) (sums (c * c) (c * d) (d * d))
      where
        sums : (p q r : ℕ) → 2 * (p + q) ≤ p + (p + q + (q + r))
        sums p q r = omega arith

-- a size whose square is small
pub root_small : (c b m : ℕ) → c * c ≤ m → m < suc b * suc b → c ≤ b
root_small c b m h k = elim (dec_le c b) [ yes y ↦ y | no f ↦ absurd (lt_irrefl m (lt_of_lt_of_le k (le_trans (mul-le-mul (lt_of_not-le f) (lt_of_not-le f)) h))) ]

module _ (c s p q h : ℕ) (i : IsHigh c c p) (j : IsHigh s s q) (k : IsHigh c s h) (a b : ℕ) where
  doubled_low : 2 * h * 2 ^ 63 ≤ 2 * (c * s)
  doubled_low = le_trans (le_of_eq (mul_assoc 2 h (2 ^ 63))) (mul-le-mul_left 2 k.low)

  doubled_high : 2 * (c * s) ≤ (2 * h + 8) * 2 ^ 63
  doubled_high = go (c * s) k.high
    where
      go : (x : ℕ) → x < (h + 4) * 2 ^ 63 → 2 * x ≤ (2 * h + 8) * 2 ^ 63
      go x l = omega arith

  pub doubled_less : p < q → IsDoubled a c b s 1 (q - p) ((a + b) % 2) (2 * h)
  doubled_less l = record { cosine = go (c * c) (s * s) i.low i.high j.low j.high; sign = omega arith; sine_low = doubled_low; sine_high = doubled_high; sine_sign = refl }
    where
      go : (x y : ℕ) → p * 2 ^ 63 ≤ x → x < (p + 4) * 2 ^ 63 → q * 2 ^ 63 ≤ y → y < (q + 4) * 2 ^ 63 → Apart (0 * 2 ^ 63) ((q - p) * 2 ^ 63) x y (4 * 2 ^ 63)
      go x y m n r t = record { under = omega arith; over = omega arith }

  pub doubled_more : q ≤ p → IsDoubled a c b s 0 (p - q) ((a + b) % 2) (2 * h)
  doubled_more l = record { cosine = go (c * c) (s * s) i.low i.high j.low j.high; sign = omega arith; sine_low = doubled_low; sine_high = doubled_high; sine_sign = refl }
    where
      go : (x y : ℕ) → p * 2 ^ 63 ≤ x → x < (p + 4) * 2 ^ 63 → q * 2 ^ 63 ≤ y → y < (q + 4) * 2 ^ 63 → Apart ((p - q) * 2 ^ 63) (0 * 2 ^ 63) x y (4 * 2 ^ 63)
      go x y m n r t = record { under = omega arith; over = omega arith }

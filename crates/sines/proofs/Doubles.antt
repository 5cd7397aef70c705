-- From whole numbers to doubles. Assumes nothing.
use mathlib.Core.Path.{◌≡◌, sym, ap, ◌∙◌}
use Prim.Native.Nat.{ℕ, zero, suc, ◌+◌, ◌*◌, ◌/◌, ◌^◌, ◌≤◌, zero-le}
use native.Mathlib.Nat.{le_trans, le_of_eq, le_refl, add-le-add, add_comm, mul-add, add-mul, mul_comm, mul_assoc, mul_right_comm, mul-le-mul_left, mul-le-mul_right}
use native.Mathlib.Omega.{arith}
use lib.Ieee.{Float}
use lib.Ieee.Positive.{den}
use Rattle.circle.specs.Within.{Within}
use Rattle.circle.specs.Within as C
use Rattle.circle.specs.Inside.Fixed.{Apart, Lies}
use Rattle.circle.specs.Inside.Signed.{plus, less}

-- ---- a number within 2 ^ -42 of the code's cut to 52 digits is within 2 ^ -40 of the series
-- (x - y) / d is the number, (p - l) / 2 ^ 52 the code's cut, and (c - m) / 2 ^ 63 the code's
under_of : (x y d U p l c m P Q : ℕ) → x * 2 ^ 52 + l * d ≤ (p + 1024) * d + y * 2 ^ 52 → c * U + Q * 2 ^ 63 ≤ P * 2 ^ 63 + m * U + 2 ^ 22 * U → p * 2 ^ 11 ≤ c → m ≤ l * 2 ^ 11 + 2 ^ 11
    → 2 ^ 40 * 1 * (x * U + Q * d) ≤ 2 ^ 40 * 1 * (P * d + y * U) + 1 * (d * U)
under_of x y d U p l c m P Q near series low high = go (x * U) (y * U) (Q * d) (P * d) (d * U) (p * (d * U)) (l * (d * U)) (c * (d * U)) (m * (d * U)) by_unit by_den by_low by_high
  where
    by_unit : x * U * 2 ^ 52 + l * (d * U) ≤ p * (d * U) + 1024 * (d * U) + y * U * 2 ^ 52
    by_unit =
        le_trans (le_of_eq (sym (add-mul (x * 2 ^ 52) (l * d) U ∙ ap (λ (z : ℕ). z + l * d * U) (mul_right_comm x (2 ^ 52) U) ∙ ap (λ (z : ℕ). x * U * 2 ^ 52 + z) (mul_assoc l d U))))
        (le_trans (mul-le-mul_right U near)
        (le_of_eq (add-mul ((p + 1024) * d) (y * 2 ^ 52) U ∙ ap (λ (z : ℕ). (p + 1024) * d * U + z) (mul_right_comm y (2 ^ 52) U) ∙ ap (λ (z : ℕ). z + y * U * 2 ^ 52) (mul_assoc (p + 1024) d U ∙ add-mul p 1024 (d * U)))))

    swap : (k : ℕ) → k * U * d ≡ k * (d * U)
    swap k = mul_assoc k U d ∙ ap (λ (z : ℕ). k * z) (mul_comm U d)

    by_den : c * (d * U) + Q * d * 2 ^ 63 ≤ P * d * 2 ^ 63 + m * (d * U) + 2 ^ 22 * (d * U)
    by_den =
        le_trans (le_of_eq (sym (add-mul (c * U) (Q * 2 ^ 63) d ∙ ap (λ (z : ℕ). z + Q * 2 ^ 63 * d) (swap c) ∙ ap (λ (z : ℕ). c * (d * U) + z) (mul_right_comm Q (2 ^ 63) d))))
        (le_trans (mul-le-mul_right d series)
        (le_of_eq (add-mul (P * 2 ^ 63 + m * U) (2 ^ 22 * U) d ∙ ap (λ (z : ℕ). z + 2 ^ 22 * U * d) (add-mul (P * 2 ^ 63) (m * U) d ∙ ap (λ (z : ℕ). z + m * U * d) (mul_right_comm P (2 ^ 63) d) ∙ ap (λ (z : ℕ). P * d * 2 ^ 63 + z) (swap m)) ∙ ap (λ (z : ℕ). P * d * 2 ^ 63 + m * (d * U) + z) (swap (2 ^ 22)))))

    by_low : p * (d * U) * 2 ^ 11 ≤ c * (d * U)
    by_low = le_trans (le_of_eq (mul_right_comm p (d * U) (2 ^ 11))) (mul-le-mul_right (d * U) low)

    by_high : m * (d * U) ≤ l * (d * U) * 2 ^ 11 + 2 ^ 11 * (d * U)
    by_high = le_trans (mul-le-mul_right (d * U) high) (le_of_eq (add-mul (l * 2 ^ 11) (2 ^ 11) (d * U) ∙ ap (λ (z : ℕ). z + 2 ^ 11 * (d * U)) (mul_right_comm l (2 ^ 11) (d * U))))

    go : (x y q p w pw lw cw mw : ℕ) → x * 2 ^ 52 + lw ≤ pw + 1024 * w + y * 2 ^ 52 → cw + q * 2 ^ 63 ≤ p * 2 ^ 63 + mw + 2 ^ 22 * w → pw * 2 ^ 11 ≤ cw → mw ≤ lw * 2 ^ 11 + 2 ^ 11 * w
        → 2 ^ 40 * 1 * (x + q) ≤ 2 ^ 40 * 1 * (p + y) + 1 * w
    go x y q p w pw lw cw mw a b c e = omega (arith, a, b, c, e)

-- the cut of each side
pub record Cut (k c : ℕ) : Type 0 where
  pub plus_low : plus k (c / 2 ^ 11) * 2 ^ 11 ≤ plus k c
  pub plus_high : plus k c ≤ plus k (c / 2 ^ 11) * 2 ^ 11 + 2 ^ 11
  pub less_low : less k (c / 2 ^ 11) * 2 ^ 11 ≤ less k c
  pub less_high : less k c ≤ less k (c / 2 ^ 11) * 2 ^ 11 + 2 ^ 11

cut : (k c : ℕ) → Cut k c
cut zero c = record { plus_low = omega arith; plus_high = omega arith; less_low = omega arith; less_high = zero-le }
cut (suc k) c = record { plus_low = omega arith; plus_high = zero-le; less_low = omega arith; less_high = omega arith }

pub within_of : (r : Float) (c P Q U k : ℕ) → Lies r (plus k (c / 2 ^ 11)) (less k (c / 2 ^ 11) + 1024) (plus k (c / 2 ^ 11) + 1024) (less k (c / 2 ^ 11)) (2 ^ 52)
    → Apart (plus k c * U) (less k c * U) (P * 2 ^ 63) (Q * 2 ^ 63) (2 ^ 22 * U) → Within r P Q U 1 1
within_of r c P Q U k v h =
    let n = c / 2 ^ 11 in
    let e = cut k c in
    record {
      number = v.number;
      under = under_of (C.plus r) (C.less r) (den r) U (plus k n) (less k n) (plus k c) (less k c) P Q v.upto h.under e.plus_low e.less_high;
      over = turned (P * den r) (C.less r * U) (C.plus r * U) (Q * den r) (1 * (den r * U)) (under_of (C.less r) (C.plus r) (den r) U (less k n) (plus k n) (less k c) (plus k c) Q P (le_trans (le_of_eq (add_comm (C.less r * 2 ^ 52) (plus k n * den r))) (le_trans v.from (le_of_eq (add_comm (C.plus r * 2 ^ 52) ((less k n + 1024) * den r))))) (sides (less k c * U) (P * 2 ^ 63) (Q * 2 ^ 63) (plus k c * U) (2 ^ 22 * U) h.over) e.less_low e.plus_high);
    }
  where
    turned : (a b x y w : ℕ) → 2 ^ 40 * 1 * (b + a) ≤ 2 ^ 40 * 1 * (y + x) + w → 2 ^ 40 * 1 * (a + b) ≤ 2 ^ 40 * 1 * (x + y) + w
    turned a b x y w h = omega (arith, h)

    sides : (m p q c w : ℕ) → p + m ≤ c + q + w → m + p ≤ q + c + w
    sides m p q c w h = omega (arith, h)

-- a share of i / j that is not below 1
pub wider : (r : Float) (P Q U i j : ℕ) → j ≤ i → Within r P Q U 1 1 → Within r P Q U i j
wider r P Q U i j h w = record { number = w.number; under = go (plus' * U + Q * den r) (P * den r + less' * U) w.under; over = go (P * den r + less' * U) (plus' * U + Q * den r) w.over }
  where
    plus' : ℕ
    plus' = C.plus r

    less' : ℕ
    less' = C.less r

    go : (x y : ℕ) → 2 ^ 40 * 1 * x ≤ 2 ^ 40 * 1 * y + 1 * (den r * U) → 2 ^ 40 * j * x ≤ 2 ^ 40 * j * y + i * (den r * U)
    go x y l =
        le_trans (le_of_eq (turn x))
        (le_trans (mul-le-mul_left j (plain x y (den r * U) l))
        (le_trans (le_of_eq (mul-add j (2 ^ 40 * y) (den r * U) ∙ ap (λ (z : ℕ). z + j * (den r * U)) (sym (turn y))))
        (add_on (2 ^ 40 * j * y) (mul-le-mul_right (den r * U) h))))
      where
        turn : (x : ℕ) → 2 ^ 40 * j * x ≡ j * (2 ^ 40 * x)
        turn x = ap (λ (z : ℕ). z * x) (mul_comm (2 ^ 40) j) ∙ mul_assoc j (2 ^ 40) x

        plain : (x y w : ℕ) → 2 ^ 40 * 1 * x ≤ 2 ^ 40 * 1 * y + 1 * w → 2 ^ 40 * x ≤ 2 ^ 40 * y + w
        plain x y w l = omega (arith, l)

        add_on : (a : ℕ) {b c : ℕ} → b ≤ c → a + b ≤ a + c
        add_on a l = add-le-add (le_refl a) l

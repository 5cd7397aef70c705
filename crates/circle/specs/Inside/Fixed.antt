-- Whole numbers that stand for fractions. Definitions only.
use Rattle.std.specs.Prelude.{ℕ, ◌+◌, ◌*◌, ◌^◌, ◌≤◌, ◌<◌, ◌≡◌, T, Float}
use Rattle.std.specs.Float.Ieee.Positive.{num, den}
use Rattle.std.specs.Float.Ieee.Scale.{finite}
use Rattle.circle.specs.Within.{plus, less}

-- x is m * 2 ^ e / 2 ^ 2148, and m has 53 binary digits
pub record IsUnpacked (x : Float) (m e : ℕ) : Type 0 where
  pub least : 2 ^ 52 ≤ m
  pub most : m < 2 ^ 53
  pub from : 1022 ≤ e
  pub upto : e ≤ 3119
  pub value : num x * (2 ^ 1074 * 2 ^ 1074) ≡ m * 2 ^ e * den x

-- r is a * b / 2 ^ 63, or less than that by less than 4
pub record IsHigh (a b r : ℕ) : Type 0 where
  pub low : r * 2 ^ 63 ≤ a * b
  pub high : a * b < (r + 4) * 2 ^ 63

-- p - m and P - Q are at most e apart
pub record Apart (p m P Q e : ℕ) : Type 0 where
  pub under : p + Q ≤ P + m + e
  pub over : P + m ≤ p + Q + e

-- r is (p - q) / c
pub record IsDifference (r : Float) (p q c : ℕ) : Type 0 where
  pub number : T (finite r)
  pub value : plus r * c + q * den r ≡ p * den r + less r * c

-- r lies from (p - q) / c to (s - t) / c
pub record Lies (r : Float) (p q s t c : ℕ) : Type 0 where
  pub number : T (finite r)
  pub from : p * den r + less r * c ≤ plus r * c + q * den r
  pub upto : plus r * c + t * den r ≤ s * den r + less r * c

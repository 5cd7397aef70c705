-- What `log10` gives. Definitions only.
-- A double x above zero is the fraction num x / den x, and a finite double r is (plus r - less r) / den r.
use Rattle.std.specs.Prelude.{zero, suc, ◌+◌, ◌*◌, ◌^◌, ◌≤◌, ◌≡◌, true, false, T, Float}
use Rattle.std.specs.Float.{nan, inf, fin}
use Rattle.std.specs.Float.Ieee.Positive.{num, den}
use Rattle.std.specs.Float.Ieee.Scale.{finite}
use Rattle.circle.specs.Within.{plus, less}

-- log x ≤ r + 2 ^ -20, which is x ≤ 10 ^ (r + 2 ^ -20). Raised to the power den r * 2 ^ 20 both sides have whole exponents: x ^ (den r * 2 ^ 20) ≤ 10 ^ (plus r * 2 ^ 20 - less r * 2 ^ 20 + den r), here with den x and 10 ^ (less r * 2 ^ 20) multiplied out.
abbrev pub AtMost : Float → Float → Type 0
AtMost x r = num x ^ (den r * 2 ^ 20) * 10 ^ (less r * 2 ^ 20) ≤ 10 ^ (plus r * 2 ^ 20 + den r) * den x ^ (den r * 2 ^ 20)

-- r ≤ log x + 2 ^ -20
abbrev pub AtLeast : Float → Float → Type 0
AtLeast x r = 10 ^ (plus r * 2 ^ 20) * den x ^ (den r * 2 ^ 20) ≤ 10 ^ (less r * 2 ^ 20 + den r) * num x ^ (den r * 2 ^ 20)

-- r is within 2 ^ -20 of the decimal logarithm of x
pub record Near (x r : Float) : Type 0 where
  pub number : T (finite r)
  pub below : AtMost x r
  pub above : AtLeast x r

-- NaN and plus infinity pass as they are, a zero has minus infinity, and what is below zero has no logarithm
abbrev pub Log10 : Float → Float → Type 0
Log10 nan r = r ≡ nan
Log10 (inf false) r = r ≡ inf false
Log10 (inf true) r = r ≡ nan
Log10 (fin s zero e) r = r ≡ inf true
Log10 (fin true (suc m) e) r = r ≡ nan
Log10 (fin false (suc m) e) r = Near (fin false (suc m) e) r

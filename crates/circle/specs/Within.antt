-- What it is to be within a bound of a fraction, over whole numbers. Definitions only.
use Rattle.std.specs.Prelude.{ℕ, ◌+◌, ◌*◌, ◌^◌, ◌≤◌, true, false, T, Float}
use Rattle.std.specs.Float.{nan, inf, fin}
use Rattle.std.specs.Float.Ieee.Positive.{num, den}
use Rattle.std.specs.Float.Ieee.Scale.{finite}

-- a finite double is (plus - less) / den
abbrev pub plus : Float → ℕ
plus (fin false m e) = num (fin false m e)
plus (fin true m e) = 0
plus (inf s) = 0
plus nan = 0

abbrev pub less : Float → ℕ
less (fin false m e) = 0
less (fin true m e) = num (fin true m e)
less (inf s) = 0
less nan = 0

-- r and (P - Q) / unit differ by at most (i / j) / 2 ^ 40
pub record Within (r : Float) (P Q unit i j : ℕ) : Type 0 where
  pub number : T (finite r)
  pub under : 2 ^ 40 * j * (plus r * unit + Q * den r) ≤ 2 ^ 40 * j * (P * den r + less r * unit) + i * (den r * unit)
  pub over : 2 ^ 40 * j * (P * den r + less r * unit) ≤ 2 ^ 40 * j * (plus r * unit + Q * den r) + i * (den r * unit)

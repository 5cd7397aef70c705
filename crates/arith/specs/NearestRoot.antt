-- What it is to be the double nearest to a square root, in whole numbers: the value of a finite double is the fraction `num` / `den`, with its sign beside it.
-- `proofs/root/Nearest.antt` shows it of `sqrt x` for every double x that is finite and above zero.
use Rattle.std.specs.Prelude.{ℕ, ◌+◌, ◌-◌, ◌*◌, ◌<◌, true, false, T, Float}
use Rattle.std.specs.Float.{nan, inf, fin, binary64}
use Rattle.std.specs.Float.Ieee.{up, down, lt, fits}
use Rattle.std.specs.Float.Ieee.Positive.{num, den, positive}
use Rattle.std.specs.Float.Ieee.Scale.{finite}

-- r + y, for an r above zero and a finite y, in units of 1 / (den r * den y): twice the middle of the two. Where it is below zero it counts as 0.
abbrev pub total : Float → Float → ℕ
total r (fin false n d) = num r * down d + n * up d * den r
total r (fin true n d) = num r * down d - n * up d * den r
total r (inf s) = 0
total r nan = 0

-- The root of x lies below the middle of r and y: 4 * x is less than the square of r + y, with the denominators multiplied out.
abbrev pub RootBelowMiddle : Float → Float → Float → Type 0
RootBelowMiddle x r y = 4 * num x * (den r * den y * (den r * den y)) < total r y * total r y * den x

-- The root of x lies above the middle of r and y: the square of r + y is less than 4 * x.
abbrev pub RootAboveMiddle : Float → Float → Float → Type 0
RootAboveMiddle x r y = total r y * total r y * den x < 4 * num x * (den r * den y * (den r * den y))

-- r is the double nearest to the root of x: a double above zero, and for every other finite double y the root lies on r's side of the middle of the two.
-- No root lies in the very middle, so no tie is left to settle.
pub record NearestRoot (x r : Float) : Type 0 where
  pub double : T (fits binary64 r)
  pub above_zero : T (positive r)
  pub than_greater : (y : Float) → T (fits binary64 y) → T (finite y) → T (lt r y) → RootBelowMiddle x r y
  pub than_less : (y : Float) → T (fits binary64 y) → T (finite y) → T (lt y r) → RootAboveMiddle x r y

-- What the sums over expansion coefficients share. Definitions only.
use Rattle.std.specs.Prelude.{Bool, List, Float, replicate}
use Rattle.std.specs.Float.Ieee.{lt}
use Rattle.arith.specs.Double.{◌⊖◌, ◌⊗◌, #0, #1e-14}
use Rattle.arith.specs.Choice.{abs}

-- A sum differs from the sum remembered, sw, by less than 1e-14 of itself. The source has `(sum - sw).abs()` in some routines and `(sw - sum).abs()` in others,
-- which are the same double (`abs_difference` in `arith/proofs/Laws.antt`).
unfoldable pub settled : Float → Float → Bool
settled sum sw = lt (abs (sum ⊖ sw)) (abs sum ⊗ #1e-14)

-- 200 places, unwritten ones zero
unfoldable pub blank : List Float
blank = replicate 200 #0

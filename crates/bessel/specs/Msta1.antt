-- The order at which the Bessel function is about 10 ^ -mp (`msta1`). Definitions only.
use Rattle.std.specs.Prelude.{ℕ, ◌+◌, Float}
use Rattle.arith.specs.Double.{◌⊗◌, dbl, bits}
use Rattle.arith.specs.Choice.{abs}
use Rattle.arith.specs.Truncation.{whole_part}
use Rattle.bessel.specs.Secant.{searched}

-- 1.1
abbrev pub #1·1 : Float
#1·1 = bits 0x3ff1_9999_9999_999a

-- the first order tried, 1.1 a0 truncated and 1 more
unfoldable pub first_order : Float → ℕ
first_order a0 = whole_part (#1·1 ⊗ a0) + 1

-- 0 where an order outside 1 to 100,000 would have to be tried
unfoldable pub msta1 : Float → ℕ → ℕ
msta1 x mp = let a0 = abs x in searched a0 (dbl mp) (first_order a0)

-- Document 01's power rule. Definitions only.
use Rattle.std.specs.Prelude.{ℕ, zero, suc, false, pos, neg_ℤ, Float}
use Rattle.std.specs.Float.{fin}
use Rattle.arith.specs.Double.{◌⊗◌, #1}
use Rattle.arith.specs.Root.{sqrt}

-- 1 multiplied k times by y, each product rounded
unfoldable pub power : Float → ℕ → Float
power y zero = #1
power y (suc k) = power y k ⊗ y

-- y to the power k + 1/2: the square root times the whole power below
abbrev pub half_power : Float → ℕ → Float
half_power y k = sqrt y ⊗ power y k

-- 2 to the power n and 1/2 to the power n, exactly. `proofs/Exact.antt` shows that the power rule gives them up to n = 400 and n = 200
abbrev pub two_to : ℕ → Float
two_to n = fin false 1 (pos n)

abbrev pub half_to : ℕ → Float
half_to n = fin false 1 (neg_ℤ (pos n))

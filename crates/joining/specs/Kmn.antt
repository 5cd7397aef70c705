-- The joining factor of a mode (`ck1` of `kmn` with kd = -1), with the names of the source. Definitions only.
use Rattle.std.specs.Prelude.{ℕ, zero, suc, ◌-◌, ◌/◌, ◌%◌, List, Float}
use Rattle.arith.specs.Double.{◌⊗◌, ◌⊘◌, dbl, at, #1, #2}
use Rattle.expansion.specs.Terms.{terms_of}
use Rattle.joining.specs.declared.sums.Test.TheVariants.{Quotient}
use Rattle.joining.specs.Sums.{expansion_sum, sa0_above, sa0_below}

-- the product of 2 c j for j from 1 to m, as `kmn` multiplies it
unfoldable pub r2_of : Float → ℕ → Float
r2_of c zero = #1
r2_of c (suc j) = #2 ⊗ c ⊗ r2_of c j ⊗ dbl (suc j)

unfoldable pub sa0_of : List Float → ℕ → ℕ → ℕ → Float → Float
sa0_of df m n ip c = sa0_above m n ip ⊘ (sa0_below m n ip c (r2_of c m) ⊗ at df 0)

-- ck1: sa0 × su0
unfoldable pub kmn : List Float → ℕ → ℕ → Float → Float
kmn df m n c =
    let ip = (n - m) % 2 in
    let su0 = expansion_sum Quotient df m ip ((n - m) / 2) (terms_of (n - m) c) #1 in
    sa0_of df m n ip c ⊗ su0

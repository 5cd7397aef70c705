-- Products of consecutive numbers, each product rounded, and the powers to half an order. Definitions only.
use Rattle.std.specs.Prelude.{ℕ, zero, suc, ◌+◌, ◌/◌, ◌%◌, cond, eqb, Float}
use Rattle.arith.specs.Double.{◌⊕◌, ◌⊗◌, dbl}
use Rattle.arith.specs.Powers.{power, half_power}

-- r times the n whole numbers a, a + 1, ..
unfoldable pub rising : Float → ℕ → ℕ → Float
rising r a zero = r
rising r a (suc n) = rising r a n ⊗ dbl (a + n)

-- r times the n numbers a + x, a + 1 + x, ..
unfoldable pub rising_by : Float → ℕ → Float → ℕ → Float
rising_by r a x zero = r
rising_by r a x (suc n) = rising_by r a x n ⊗ (dbl (a + n) ⊕ x)

-- x to the power m/2
abbrev pub half_of_m : Float → ℕ → Float
half_of_m x m = cond (eqb (m % 2) 0) (power x (m / 2)) (half_power x (m / 2))

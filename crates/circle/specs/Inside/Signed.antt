-- Numbers with a sign. Definitions only.
use Rattle.std.specs.Prelude.{ℕ, zero, suc}

-- a number by its sign (0, or 1 where it is negative) and its size, as a difference of two
abbrev pub plus : ℕ → ℕ → ℕ
plus zero n = n
plus (suc k) n = 0

abbrev pub less : ℕ → ℕ → ℕ
less zero n = 0
less (suc k) n = n

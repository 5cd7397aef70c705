-- The whole part of a double. Definitions only.
use Rattle.std.specs.Prelude.{ℕ, ℤ, Float}
use Rattle.std.specs.Float.Ieee.{to_signed, to_unsigned}

-- x cut toward zero to a whole number from -2 ^ 31 to 2 ^ 31 - 1: the nearest end of that range where x is beyond it, and 0 for `nan`
abbrev pub truncate : Float → ℤ
truncate x = to_signed 31 x

-- x truncated, as a natural number, where x is not below zero (`truncate_whole` in `proofs/Laws.antt`), and else 0
abbrev pub whole_part : Float → ℕ
whole_part x = to_unsigned 31 x

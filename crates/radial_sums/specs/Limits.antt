-- How far the sums of the radial functions run. `offset` is n − m; the two routines halve it as a whole number and part in where they truncate. Definitions only.
use Rattle.std.specs.Prelude.{ℕ, ◌+◌, ◌/◌, Float}
use Rattle.arith.specs.Truncation.{whole_part}
use Rattle.expansion.specs.Terms.{cut_of}

-- `rmn1` and `rmn2l`: 25 + (n − m)/2 + c truncated
unfoldable pub first_terms : ℕ → Float → ℕ
first_terms offset c = 25 + offset / 2 + whole_part c

-- `rmn2so`: 25 + ((n − m)/2 + c) truncated
unfoldable pub second_terms : ℕ → Float → ℕ
second_terms offset c = 25 + cut_of offset c

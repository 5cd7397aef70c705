-- The part of the matrix entry a before cs, and the table that has it for m up to 3. The letters are document 01's: m is the order, and entry i of a family, counted from 0, has k = 2 i + parity, the parity being 0 for even and 1 for odd.
-- Definitions only.
use Rattle.std.specs.Prelude.{ℕ, zero, suc, ◌+◌, ◌*◌, List, [], ◌∷◌, ◌++◌, Float}
use Rattle.arith.specs.Double.{◌⊕◌, ◌⊗◌, ◌⊘◌, dbl, bits_of, #1, #2, #3, #5}

-- (2m+k+2)(2m+k+1) / ((2(m+k)+3)(2(m+k)+5))
abbrev pub factor_a : ℕ → ℕ → Float
factor_a m k = (dbl (2 * m + k) ⊕ #2) ⊗ (dbl (2 * m + k) ⊕ #1) ⊘ ((dbl (2 * (m + k)) ⊕ #3) ⊗ (dbl (2 * (m + k)) ⊕ #5))

-- the bits of n factors of a family, from that of entry i on
unfoldable pub bits_from : ℕ → ℕ → ℕ → ℕ → List ℕ
bits_from m parity i zero = []
bits_from m parity i (suc n) = bits_of (factor_a m (2 * i + parity)) ∷ bits_from m parity (i + 1) n

-- the first 200 of either parity, even first
abbrev pub bits_of_order : ℕ → List ℕ
bits_of_order m = bits_from m 0 0 200 ++ bits_from m 1 0 200

-- the table: 1,600 factors as their bits
unfoldable pub factor_table : List ℕ
factor_table = bits_of_order 0 ++ (bits_of_order 1 ++ (bits_of_order 2 ++ bits_of_order 3))

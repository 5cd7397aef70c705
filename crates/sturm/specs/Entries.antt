-- The entries of a family's matrix, in document 01's letters: m is the order, and entry i, counted from 1, has k = 2 (i - 1) in the even family and 2 i - 1 in the odd one.
-- cs is c × c × kd. Definitions only.
use Rattle.std.specs.Prelude.{ℕ, zero, suc, ◌+◌, ◌-◌, ◌*◌, cond, List, ltb, Float, set, replicate}
use Rattle.arith.specs.Double.{◌⊕◌, ◌⊖◌, ◌⊗◌, ◌⊘◌, dbl, #0, #1, #2, #3}
use Rattle.arith.specs.Root.{sqrt}
use Rattle.factors.specs.Factors.{factor_a}

-- (2m+k+2)(2m+k+1) / ((2(m+k)+3)(2(m+k)+5)) × cs
abbrev pub entry_a : ℕ → ℕ → Float → Float
entry_a m k cs = factor_a m k ⊗ cs

-- (m+k)(m+k+1) + (2(m+k)(m+k+1) − 2m² − 1) / ((2(m+k)−1)(2(m+k)+3)) × cs
abbrev pub entry_d : ℕ → ℕ → Float → Float
entry_d m k cs =
    dbl (m + k) ⊗ dbl (m + k + 1)
    ⊕ (#2 ⊗ dbl (m + k) ⊗ dbl (m + k + 1) ⊖ #2 ⊗ dbl m ⊗ dbl m ⊖ #1)
    ⊘ ((dbl (2 * (m + k)) ⊖ #1) ⊗ (dbl (2 * (m + k)) ⊕ #3)) ⊗ cs

-- k(k−1) / ((2(m+k)−3)(2(m+k)−1)) × cs
abbrev pub entry_g : ℕ → ℕ → Float → Float
entry_g m k cs = dbl k ⊗ (dbl k ⊖ #1) ⊘ ((dbl (2 * (m + k)) ⊖ #3) ⊗ (dbl (2 * (m + k)) ⊖ #1)) ⊗ cs

-- the square root of the product of the entry before's a and this entry's g; zero in the first entry
unfoldable pub entry_e : ℕ → ℕ → Float → Float
entry_e m k cs = cond (ltb k 2) #0 (sqrt (entry_a m (k - 2) cs ⊗ entry_g m k cs))

-- ---- a family's entries in arrays of 300

unfoldable pub blank_entries : List Float
blank_entries = replicate 300 #0

-- zeros but for the first n, of which the one at i, counted from 0, is the entry with k = 2 i + parity
unfoldable pub first_entries : (ℕ → Float) → ℕ → ℕ → List Float
first_entries entry parity zero = blank_entries
first_entries entry parity (suc i) = set (first_entries entry parity i) i (entry (2 * i + parity))

abbrev pub diagonal : ℕ → ℕ → Float → ℕ → List Float
diagonal m parity cs entries = first_entries (λ k. entry_d m k cs) parity entries

abbrev pub off_diagonal : ℕ → ℕ → Float → ℕ → List Float
off_diagonal m parity cs entries = first_entries (λ k. entry_e m k cs) parity entries

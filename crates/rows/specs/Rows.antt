-- The row of characteristic values of a mode. Definitions only.
use Rattle.std.specs.Prelude.{ℕ, zero, suc, ◌+◌, ◌-◌, Bool, false, cond, ◌||◌, List, leb, eqb, length, set, replicate, Float}
use Rattle.std.specs.Float.Ieee.{lt}
use Rattle.arith.specs.Double.{◌⊖◌, ◌⊗◌, dbl, at, #0, #1e-10}
use Rattle.segv.specs.declared.bisection.Bracket.{Bracket}
use Rattle.segv.specs.Families.{both_families}
use Rattle.segv.specs.Row.{Slices, slices, written_row, Numbered, answer, segv_row}
use Rattle.requests.specs.declared.checking.Kind.{Kind}
use Rattle.requests.specs.declared.checking.Mode.{Mode}
use Rattle.requests.specs.Refusals.{cs_of, entries_of, row_refusal}

-- ---- the row

-- 9: a slice has fewer than n − m + 1 places
unfoldable pub too_short : Mode → Slices → Bool
too_short x l =
    leb (length l.values) (x.n - x.m) || leb (length l.steps) (x.n - x.m) || leb (length l.lowers) (x.n - x.m) || leb (length l.uppers) (x.n - x.m)
    || leb (length l.substituted) (x.n - x.m)

-- value j is (m + j)(m + j + 1), lower and upper equal it, steps are 0, and no pivot was replaced
unfoldable pub zero_at : ℕ → ℕ → Bracket
zero_at m j = let v = dbl (m + j) ⊗ dbl (m + j + 1) in record { value = v; lower = v; upper = v; steps = 0; substituted = false }

-- where c < 1e-10 the zero-parameter row, and else the bisected one, with cs and K entries
unfoldable pub row_in : Kind → Mode → ℕ → Slices → Numbered Slices
row_in kind x allowance l =
    cond (lt x.c #1e-10) (answer 0 (written_row (zero_at x.m) (x.n - x.m + 1) l))
    (segv_row (both_families x.m x.n (cs_of kind x) (entries_of x) allowance) (x.n - x.m + 1) l)

-- refused 4, 5, 6 or 9, the slices stay as they were
unfoldable pub row_of : Kind → Mode → ℕ → Slices → Numbered Slices
row_of kind x allowance l =
    let r = cond (too_short x l) (answer 9 l) (row_in kind x allowance l) in
    cond (eqb (row_refusal x) 0) r (answer (row_refusal x) l)

-- ---- DLMF's form (Card 4)
-- DLMF's eigenvalue plus γ² is Flammer's value, and γ² is c² for prolate modes, −c² for oblate ones: document 01's cs. So a prolate eigenvalue is the value less c × c, an oblate one the value plus c × c.

-- room for a row of 200 modes
unfoldable pub blank_slices : Slices
blank_slices = slices (replicate 200 #0) (replicate 200 0) (replicate 200 #0) (replicate 200 #0) (replicate 200 0)

-- a list with the first n values, each less γ², in its first n places
unfoldable pub lessened : List Float → Float → ℕ → List Float → List Float
lessened values γ² zero xs = xs
lessened values γ² (suc n) xs = set (lessened values γ² n xs) n (at values n ⊖ γ²)

-- from the answer of the row, below 1e-10 too
unfoldable pub dlmf_in : Kind → Mode → Numbered Slices → List Float → Numbered (List Float)
dlmf_in kind x a xs = cond (eqb a.number 0) (answer 0 (lessened a.after.values (cs_of kind x) (x.n - x.m + 1) xs)) (answer a.number xs)

unfoldable pub dlmf_of : Kind → Mode → ℕ → List Float → Numbered (List Float)
dlmf_of kind x allowance xs =
    let r = cond (leb (length xs) (x.n - x.m)) (answer 9 xs) (dlmf_in kind x (row_in kind x allowance blank_slices) xs) in
    cond (eqb (row_refusal x) 0) r (answer (row_refusal x) xs)

-- The negative pivots of a symmetric tridiagonal matrix at a shift: ds is the diagonal, es has the entries beside it, each the root of a product.
-- In exact arithmetic, where no pivot is zero, there are as many as characteristic values below the shift; nothing of the kind is claimed of the rounded ones. Definitions only.
use Rattle.std.specs.Prelude.{ℕ, zero, suc, ◌+◌, Bool, false, cond, ◌||◌, List, Float}
use Rattle.std.specs.Float.Ieee.{eq, lt}
use Rattle.arith.specs.Double.{◌⊖◌, ◌⊗◌, ◌⊘◌, #0, #1, #1e-30, at}
use Rattle.sturm.specs.declared.pivots.Count.{Count}

-- so many pivots below zero, and was 1e-30 put in
abbrev pub count : ℕ → Bool → Count
count n b = record { negative = n; substituted = b }

-- the pivot after some entries, and the count up to it
pub record Pivots : Type 0 where
  pub last : Float
  pub count : Count

-- what is divided by: a zero pivot, of either sign, first becomes 1e-30
unfoldable pub divisor : Float → Float
divisor s = cond (eq s #0) #1e-30 s

-- f: the rounded square of the root e, which is not the product under it
abbrev pub square : Float → Float
square e = e ⊗ e

-- (d − f/s) − shift: at the entry d with a root beside it whose square is f, s being the pivot before it or its substitute
abbrev pub pivot : Float → Float → Float → Float → Float
pivot d f s shift = (d ⊖ f ⊘ s) ⊖ shift

-- a yes where 1e-30 is put in for the pivot s
abbrev pub note_zero : Float → Count → Count
note_zero s k = count k.negative (eq s #0 || k.substituted)

-- one more where the pivot s is below zero
abbrev pub count_negative : Float → Count → Count
count_negative s k = count (cond (lt s #0) (k.negative + 1) k.negative) k.substituted

-- at one more entry: 1e-30 first, then the pivot. So a zero pivot of the last entry, which nothing is divided by, is no yes
unfoldable pub next_pivot : Float → Float → Float → Pivots → Pivots
next_pivot d e shift p =
    let s = pivot d (square e) (divisor p.last) shift in
    record { last = s; count = count_negative s (note_zero p.last p.count) }

-- after the first i entries; before the first the pivot is 1
unfoldable pub pivots_at : List Float → List Float → Float → ℕ → Pivots
pivots_at ds es shift zero = record { last = #1; count = count 0 false }
pivots_at ds es shift (suc i) = next_pivot (at ds i) (at es i) shift (pivots_at ds es shift i)

-- the count over the first `entries` entries
unfoldable pub negative_pivots : List Float → List Float → ℕ → Float → Count
negative_pivots ds es entries shift = (pivots_at ds es shift entries).count

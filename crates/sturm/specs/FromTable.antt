-- Card 7: a row has the same bits whichever way its factors came. A row is worked out from the diagonal, which has no such factors, and the roots beside it: these are the same with a's factors from the table as with those worked out.
-- Statements only: `proofs/FromTable.antt` proves them.
use Rattle.std.specs.Prelude.{ℕ, zero, suc, ◌+◌, ◌-◌, ◌*◌, ◌<◌, ◌≡◌, cond, List, ltb, Float, set}
use Rattle.arith.specs.Double.{◌⊗◌, #0}
use Rattle.arith.specs.Root.{sqrt}
use Rattle.factors.specs.Factors.{factor_table}
use Rattle.factors.specs.Lookup.{looked_up}
use Rattle.sturm.specs.Entries.{entry_g, blank_entries, off_diagonal}

-- e of entry i, counted from 0, the factor in the entry before's a being looked up
abbrev pub entry_from_table : ℕ → ℕ → Float → ℕ → Float
entry_from_table m parity cs i =
    cond (ltb (2 * i + parity) 2) #0 (sqrt (looked_up factor_table m parity (i - 1) ⊗ cs ⊗ entry_g m (2 * i + parity) cs))

-- zeros but for the first n
unfoldable pub from_table : ℕ → ℕ → Float → ℕ → List Float
from_table m parity cs zero = blank_entries
from_table m parity cs (suc i) = set (from_table m parity cs i) i (entry_from_table m parity cs i)

-- They are the roots of the definition, for every order, parity and number of entries.
abbrev pub SameRoots : Type 0
SameRoots = (m parity : ℕ) (cs : Float) (n : ℕ) → parity < 2 → from_table m parity cs n ≡ off_diagonal m parity cs n

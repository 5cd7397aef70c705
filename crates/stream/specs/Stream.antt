-- The lines of a stream of records (document 01, 'A record comes in', and Card 6). Definitions only.
use Rattle.std.specs.Prelude.{ℕ, zero, suc, ◌+◌, ◌-◌, List, [], ◌++◌, length}
use Rattle.records.specs.declared.record.Next.TheVariants.{Whole, Unmarked, Cut, End}
use Rattle.records.specs.Record.{next_at}
use Rattle.records.specs.Lines.{r_line}
use Rattle.stream.specs.Response.{response_to}

-- The lines of at most `left` records from byte `at` on, the first of them with number `index`. Nothing follows the line of a record that is cut short or has neither mark; every other record, refused or not, takes as many bytes as its mark says.
unfoldable pub lines_in : ℕ → List ℕ → ℕ → ℕ → List ℕ
lines_in zero input at index = []
lines_in (suc left) input at index =
    elim (next_at input at) [
      | End ↦ []
      | Cut ↦ r_line index 1
      | Unmarked ↦ r_line index 2
      | Whole r size ↦ response_to index r ++ lines_in left input (at + size) (index + 1)
    ]

-- all lines from byte `at` on: there are never more records than bytes
abbrev pub lines_from : List ℕ → ℕ → ℕ → List ℕ
lines_from input at index = lines_in (length input - at) input at index

-- all lines of a stream
abbrev pub lines_of : List ℕ → List ℕ
lines_of input = lines_from input 0 0

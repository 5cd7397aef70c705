-- What holds of the lines of a stream, as statements about the definitions. `proofs/StreamLaws.antt` proves them. `Readings.antt` has what follows from them for a stream that comes in many readings.
use Rattle.std.specs.Prelude.{ℕ, ◌+◌, ◌-◌, ◌*◌, ◌≤◌, ◌<◌, ◌≡◌, false, List, [], ◌++◌, length, drop}
use Rattle.records.specs.declared.record.Next.TheVariants.{Whole, Unmarked, Cut, End}
use Rattle.records.specs.Record.{next_at}
use Rattle.records.specs.Lines.{r_line}
use Rattle.stream.specs.declared.stream.Progress.{Progress}
use Rattle.stream.specs.Response.{response_to}
use Rattle.stream.specs.Stream.{lines_from}
use Rattle.stream.specs.Inside.Calls.{answered, progress, lines_after, end_lines, longest}

-- the sentences of document 01 and Card 6 as they stand: the bound on the number of records in the definition is never met
abbrev pub Unbounded : Type 0
Unbounded =
    (input : List ℕ) (at index : ℕ)
    → lines_from input at index
    ≡ elim (next_at input at) [
      | End ↦ []
      | Cut ↦ r_line index 1
      | Unmarked ↦ r_line index 2
      | Whole r size ↦ response_to index r ++ lines_from input (at + size) (index + 1)
    ]

-- a call that sees only the first part of a stream, wherever it is cut, does what it would do in the whole: what it puts and what is still to come are the lines from its start on, and no line is lost, made up, changed or put twice
abbrev pub PartsJoined : Type 0
PartsJoined =
    (part rest : List ℕ) (room at index : ℕ)
    → let a = answered part room at index in
    a.text ++ lines_after (part ++ rest) a ≡ lines_from (part ++ rest) at index

-- and the lines from there on are those of what is left of the part, with the next part after it
abbrev pub NextPart : Type 0
NextPart =
    (part rest : List ℕ) (at index : ℕ)
    → at ≤ length part
    → lines_from (part ++ rest) at index ≡ lines_from (drop at part ++ rest) 0 index

-- how far a call comes: it stays in the input and counts one record for each 33 to 35 bytes; with room for a record's lines it comes further unless it is through; and it is through where less than a record is left, which is refused where nothing more comes
pub record Moved (input : List ℕ) (room at index : ℕ) (r : Progress) : Type 0 where
  pub fewest : at + 33 * r.index ≤ r.at + 33 * index
  pub most : r.at + 35 * index ≤ at + 35 * r.index
  pub within : at ≤ length input → r.at ≤ length input
  pub further : longest ≤ room → room < r.used + longest → r.refused ≡ false → at < r.at
  pub through : r.used + longest ≤ room → r.refused ≡ false → length input - r.at < 35
  pub left : r.used + longest ≤ room → r.refused ≡ false → lines_from input r.at r.index ≡ end_lines input r.at r.index

abbrev pub Moves : Type 0
Moves = (input : List ℕ) (room at index : ℕ) (r : Progress) → r ≡ progress (answered input room at index) → Moved input room at index r

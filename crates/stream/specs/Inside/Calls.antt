-- What one call of `answer_some` answers of a stream: as many lines as its buffer takes. Definitions only.
use Rattle.std.specs.Prelude.{ℕ, zero, suc, ◌+◌, ◌-◌, ◌*◌, Bool, true, false, cond, List, [], ◌++◌, leb, length}
use Rattle.records.specs.declared.record.Next.TheVariants.{Whole, Unmarked, Cut, End}
use Rattle.records.specs.Record.{next_at}
use Rattle.records.specs.Lines.{r_line}
use Rattle.stream.specs.declared.stream.Progress.{Progress}
use Rattle.stream.specs.Response.{response_to}
use Rattle.stream.specs.Stream.{lines_from}

-- no record's lines have more bytes: a row has at most 200 lines of 91, and as many of 33
abbrev pub longest : ℕ
longest = 200 * (91 + 33)

-- What one call answers: its lines, the byte and the number of the record that comes next, and whether the stream was refused there, so that nothing follows.
pub record Answered : Type 0 where
  pub text : List ℕ
  pub at : ℕ
  pub index : ℕ
  pub refused : Bool

-- One call: it answers record after record while its buffer, which has `room` bytes, has room for the longest response beside the text so far. A record that is cut short is left, since the rest of it may yet come.
unfoldable pub answered_in : ℕ → List ℕ → ℕ → ℕ → ℕ → List ℕ → Answered
answered_in zero input room at index text = record { text = text; at = at; index = index; refused = false }
answered_in (suc left) input room at index text =
    elim (leb (length text + longest) room) [
      | false ↦ record { text = text; at = at; index = index; refused = false }
      | true ↦ elim (next_at input at) [
        | End ↦ record { text = text; at = at; index = index; refused = false }
        | Cut ↦ record { text = text; at = at; index = index; refused = false }
        | Unmarked ↦ record { text = text ++ r_line index 2; at = at; index = index; refused = true }
        | Whole r size ↦ answered_in left input room (at + size) (index + 1) (text ++ response_to index r)
      ]
    ]

abbrev pub answered : List ℕ → ℕ → ℕ → ℕ → Answered
answered input room at index = answered_in (length input - at) input room at index []

-- what the code's struct says of it
abbrev pub progress : Answered → Progress
progress a = record { at = a.at; index = a.index; used = length a.text; refused = a.refused }

-- the lines that are still to come after a call
abbrev pub lines_after : List ℕ → Answered → List ℕ
lines_after input a = cond a.refused [] (lines_from input a.at a.index)

-- what is said of the bytes from `at` on that no call has answered, where no more come: the record that they begin is cut short
abbrev pub end_lines : List ℕ → ℕ → ℕ → List ℕ
end_lines input at index = cond (leb (length input) at) [] (r_line index 1)

-- How the program takes a stream, as a definition: reading after reading, and call after call in each. After each reading it answers the whole records that it has, and holds the beginning of the next. `ReadInParts` says that its lines are then those of the whole stream; `proofs/Readings.antt` proves it. The logic keeps no record of what a program reads and writes, so that the program's loops are held to this definition by reading them, and what they hold by proof.
use Rattle.std.specs.Prelude.{ℕ, zero, suc, ◌+◌, ◌≤◌, ◌≡◌, true, false, cond, List, [], ◌∷◌, ◌++◌, leb, length, drop}
use Rattle.stream.specs.Stream.{lines_of}
use Rattle.stream.specs.Inside.Calls.{Answered, answered, end_lines, longest}

-- At most `most` calls on the bytes that are there, after what was answered so far: until the stream is refused, or a call leaves room for another record's lines. Each call has a buffer of `room` bytes.
unfoldable pub calls_in : ℕ → List ℕ → ℕ → Answered → Answered
calls_in zero bytes room a = a
calls_in (suc most) bytes room a =
    let b = answered bytes room a.at a.index in
    let both : Answered = record { text = a.text ++ b.text; at = b.at; index = b.index; refused = b.refused } in
    elim b.refused [ true ↦ both | false ↦ elim (leb (length b.text + longest) room) [ true ↦ both | false ↦ calls_in most bytes room both ] ]

-- all calls on the bytes that are there, whose first record has this number
abbrev pub answers_to : List ℕ → ℕ → ℕ → Answered
answers_to bytes room index = calls_in (suc (length bytes)) bytes room (record { text = []; at = 0; index = index; refused = false })

-- what is held between two readings: the bytes that no call has answered yet, which begin a record, and the number of that record
pub record Held : Type 0 where
  pub bytes : List ℕ
  pub index : ℕ

abbrev pub nothing : Held
nothing = record { bytes = []; index = 0 }

-- another reading: its bytes come behind what is held
abbrev pub answers_with : ℕ → Held → List ℕ → Answered
answers_with room h reading = answers_to (h.bytes ++ reading) room h.index

-- and what is held after it
abbrev pub holds : ℕ → Held → List ℕ → Held
holds room h reading = let a = answers_with room h reading in record { bytes = drop a.at (h.bytes ++ reading); index = a.index }

-- the lines of reading after reading, until the stream is refused, and of what is held at the end
unfoldable pub printed : List (List ℕ) → ℕ → Held → List ℕ
printed [] room h = end_lines h.bytes 0 h.index
printed (reading ∷ readings) room h =
    let a = answers_with room h reading in
    a.text ++ cond a.refused [] (printed readings room (holds room h reading))

-- the stream that was read
unfoldable pub joined : List (List ℕ) → List ℕ
joined [] = []
joined (reading ∷ readings) = reading ++ joined readings

-- where the buffer has room for a record's lines, the lines are those of the stream, whatever the readings and the buffer: records of either length may lie across readings, and a reading may be empty
abbrev pub ReadInParts : Type 0
ReadInParts = (readings : List (List ℕ)) (room : ℕ) → longest ≤ room → printed readings room nothing ≡ lines_of (joined readings)

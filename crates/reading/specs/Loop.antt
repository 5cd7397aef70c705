-- What the reading loop holds from reading to reading, and where it may end. The steps are those of `stream/specs/Readings.antt`, which also says what its lines are.
use Rattle.std.specs.Prelude.{ℕ, ◌+◌, ◌<◌, ◌≤◌, ◌≡◌, Bool, true, false, cond, ◌⊎◌, List, [], ◌∷◌, length, take}
use Rattle.stream.specs.Readings.{answers_to, Held, nothing, holds}
use Rattle.reading.specs.declared.Arrived.{Arrived}
use Rattle.reading.specs.declared.Reading.{Reading}
use Rattle.reading.specs.declared.State.{State}
use Rattle.reading.specs.declared.State.TheVariants.{Going, Refused, Unread, RefusedUnread}

-- the state after lines that were written or not, the last of which refuses the stream or does not
abbrev pub state_of : Bool → Bool → State
state_of refused written = cond written (cond refused Refused Going) (cond refused RefusedUnread Unread)

-- whether the last line refuses the stream
abbrev pub refuses : State → Bool
refuses Going = false
refuses Refused = true
refuses Unread = false
refuses RefusedUnread = true

-- whether the lines were taken
abbrev pub taken : State → Bool
taken Going = true
taken Refused = true
taken Unread = false
taken RefusedUnread = false

-- how far the bytes that are there are answered: where the lines are taken, as far as the definition says
pub record Answers (bytes : List ℕ) (room first : ℕ) (r : Arrived) : Type 0 where
  pub within : r.at ≤ length bytes
  pub counted : r.index ≤ first + r.at
  pub through : r.state ≡ Going → length bytes < r.at + 35
  pub at : taken r.state ≡ true → r.at ≡ (answers_to bytes room first).at
  pub index : taken r.state ≡ true → r.index ≡ (answers_to bytes room first).index
  pub refused : taken r.state ≡ true → refuses r.state ≡ (answers_to bytes room first).refused

-- what is held after some readings, the last of them first
unfoldable pub held_after : ℕ → List (List ℕ) → Held
held_after room [] = nothing
held_after room (reading ∷ earlier) = holds room (held_after room earlier) reading

-- how many bytes they have
unfoldable pub total : List (List ℕ) → ℕ
total [] = 0
total (reading ∷ earlier) = length reading + total earlier

-- the buffer starts with what is held after the readings so far, less than a record; each record that was answered had a byte at least
pub record Keeps (room : ℕ) (buffer : List ℕ) (r : Reading) : Type 0 where
  pub readings : List (List ℕ)
  pub bytes : r.bytes ≡ total readings
  pub held : take r.held buffer ≡ (held_after room readings).bytes
  pub index : r.index ≡ (held_after room readings).index
  pub short : r.held < 35
  pub counted : r.index + r.held ≤ r.bytes

-- nothing has gone wrong yet: the stream is not refused, and its lines are taken
abbrev pub Goes : Reading → Type 0
Goes r = r.state ≡ Going

-- the loop ends only where a reading got nothing, the stream is refused, nobody takes the lines any more, or 2^63 bytes have come
abbrev pub Ends : Reading → Type 0
Ends r = (r.got ≡ 0) ⊎ (refuses r.state ≡ true) ⊎ (taken r.state ≡ false) ⊎ (9223372036854775808 ≤ r.bytes)

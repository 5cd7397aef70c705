-- Card 6: an old record and the new one with the same fields have the same lines. Stated of their bytes, for every stream of them: whichever records are written as the new kind, the lines are the same. `proofs/BothKinds.antt` proves it.
use Rattle.std.specs.Prelude.{ℕ, ◌≡◌, Bool, true, cond, List, [], ◌∷◌, ◌++◌, length, take, drop}
use Rattle.records.specs.Record.{marked}
use Rattle.stream.specs.Stream.{lines_of}

-- an old record: 33 bytes, the mark 53 57 first
pub record Old (bytes : List ℕ) : Type 0 where
  pub size : length bytes ≡ 33
  pub mark : marked 0x57 bytes 0 ≡ true

-- the new record with the same fields: the other mark, and two more bytes of allowance, both zero
abbrev pub widened : List ℕ → List ℕ
widened old = 0x53 ∷ 0x56 ∷ take 7 (drop 2 old) ++ 0 ∷ 0 ∷ drop 9 old

-- a stream of old records, each with whether it is to be written as the new kind
abbrev pub Choices : Type 0
Choices = List (Bool × List ℕ)

unfoldable pub AllOld : Choices → Type 0
AllOld [] = Unit
AllOld (r ∷ rs) = Old r.1 × AllOld rs

-- the stream as chosen
unfoldable pub chosen : Choices → List ℕ
chosen [] = []
chosen (r ∷ rs) = cond r.0 (widened r.1) r.1 ++ chosen rs

-- the stream of the old records
unfoldable pub unchanged : Choices → List ℕ
unchanged [] = []
unchanged (r ∷ rs) = r.1 ++ unchanged rs

-- whatever is chosen, and whatever bytes follow
abbrev pub SameLines : Type 0
SameLines = (records : Choices) (rest : List ℕ) → AllOld records → lines_of (chosen records ++ rest) ≡ lines_of (unchanged records ++ rest)

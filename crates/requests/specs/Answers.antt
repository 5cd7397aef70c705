-- What a caller is answered. Definitions only.
use Rattle.std.specs.Prelude.{ℕ, Result, Ok, Err, Float}
use Rattle.expansion.specs.declared.values.Pair as values
use Rattle.requests.specs.declared.refusals.Refusal.{Refusal}
use Rattle.requests.specs.declared.refusals.Refusal.TheVariants.{CutShort, WrongMark, UnknownOperation, OutOfRange, SizeParameter, TooLarge, CharacteristicValue, Argument, ShortSlice, OutOfSteps, TooFar, NoOrder, SheetTooLarge}

-- document 01's number of a refusal
abbrev pub number_of : Refusal → ℕ
number_of CutShort = 1
number_of WrongMark = 2
number_of UnknownOperation = 3
number_of OutOfRange = 4
number_of SizeParameter = 5
number_of TooLarge = 6
number_of CharacteristicValue = 7
number_of Argument = 8
number_of ShortSlice = 9
number_of OutOfSteps = 10
number_of TooFar = 11
number_of NoOrder = 12
number_of SheetTooLarge = 13

-- and of an answer: 0 is no refusal
abbrev pub code : {A : Type 0} → Result A Refusal → ℕ
code (Ok x) = 0
code (Err refusal) = number_of refusal

-- ---- to a call for one mode: a value and its derivative; those of the first kind, then of the second; or document 01's number
pub data Answer : Type 0 where
  Pair : Float → Float → Answer
  Quadruple : Float → Float → Float → Float → Answer
  Refused : ℕ → Answer

abbrev pub pair_answer : Result values.Pair Refusal → Answer
pair_answer (Ok p) = Pair p.value p.derivative
pair_answer (Err refusal) = Refused (number_of refusal)

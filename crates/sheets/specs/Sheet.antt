-- Sheets over c and x (Card 8): the angular pair of one mode for several c at several x, as single calls give it. Definitions only.
use Rattle.std.specs.Prelude.{ℕ, ◌-◌, ◌*◌, Bool, cond, ◌||◌, List, [], ◌∷◌, ◌++◌, eqb, ltb, Float, length, drop}
use Rattle.arith.specs.Double.{at, #0}
use Rattle.segv.specs.Row.{Slices, Numbered, answer}
use Rattle.requests.specs.Answers.{Answer, Pair, Quadruple, Refused}
use Rattle.requests.specs.declared.checking.Kind.{Kind}
use Rattle.requests.specs.declared.checking.Mode.{Mode}
use Rattle.requests.specs.Refusals.{out_of_range, mode_refusal}
use Rattle.rows.specs.Rows.{row_of, blank_slices}
use Rattle.modes.specs.Angular.{outside, angular_of}

-- the mode with this c
abbrev pub mode_with : ℕ → ℕ → Float → Mode
mode_with m n c = record { m = m; n = n; c = c }

-- ---- what is refused before any row is run

-- k, or where that is 0 the number that comes after it
abbrev pub or_else : ℕ → ℕ → ℕ
or_else k later = cond (eqb k 0) later k

-- the first number of an element, in list order, that is not 0, or 0
unfoldable pub first_refusal : (Float → ℕ) → List Float → ℕ
first_refusal refusal [] = 0
first_refusal refusal (y ∷ ys) = or_else (refusal y) (first_refusal refusal ys)

-- 8 of an angular call
abbrev pub argument_refusal : Float → ℕ
argument_refusal x = cond (outside x) 8 0

-- 13: more than 32 c, more than 64 x, or a block with fewer than two places a pair
unfoldable pub too_large : ℕ → ℕ → ℕ → Bool
too_large parameters arguments places = ltb 32 parameters || ltb 64 arguments || ltb places (2 * (parameters * arguments))

-- 4; then each c by 5 and 6; then each x by 8; then 13. 4 is of m and n alone
unfoldable pub lists_refusal : ℕ → ℕ → List Float → List Float → ℕ → ℕ
lists_refusal m n cs xs places =
    or_else (cond (out_of_range (mode_with m n #0)) 4 0)
    (or_else (first_refusal (λ c. mode_refusal (mode_with m n c)) cs)
    (or_else (first_refusal argument_refusal xs)
    (cond (too_large (length cs) (length xs) places) 13 0)))

-- ---- the single calls

-- value and derivative, as an angular call answers them
unfoldable pub pair_of : Answer → List Float
pair_of (Pair value derivative) = value ∷ derivative ∷ []
pair_of (Quadruple value1 derivative1 value2 derivative2) = []
pair_of (Refused k) = []

-- what each element gives, one after the other
unfoldable pub each : (Float → List Float) → List Float → List Float
each f [] = []
each f (y ∷ ys) = f y ++ each f ys

module _ (kind : Kind) (m n allowance : ℕ) where
  -- the row of this c, which has the allowance whole, in room for 200 modes
  abbrev pub row_for : Float → Numbered Slices
  row_for c = row_of kind (mode_with m n c) allowance blank_slices

  -- its value at n is the characteristic value of this c
  unfoldable pub cv_for : Float → Float
  cv_for c = at (row_for c).after.values (n - m)

  -- 10 of the row
  abbrev pub row_refusal_for : Float → ℕ
  row_refusal_for c = (row_for c).number

  -- c by c, and for each x by x. No call is refused 7: every value of an accepted row is finite (`rows/specs/Finite.antt`)
  unfoldable pub pairs : List Float → List Float → List Float
  pairs cs xs = each (λ c. each (λ x. pair_of (angular_of kind (mode_with m n c) (cv_for c) x)) xs) cs

  -- ---- the sheet

  -- the first of 4, 5, 6, 8 and 13, then of 10, or 0 for none. Where there is no x, no row is run
  unfoldable pub sheet_refusal : List Float → List Float → ℕ → ℕ
  sheet_refusal cs xs places = or_else (lists_refusal m n cs xs places) (cond (eqb (length xs) 0) 0 (first_refusal row_refusal_for cs))

  -- refused, the block stays as it was; else the pairs are in its first places
  unfoldable pub sheet_of : List Float → List Float → List Float → Numbered (List Float)
  sheet_of cs xs block =
      let k = sheet_refusal cs xs (length block) in
      cond (eqb k 0) (answer 0 (pairs cs xs ++ drop (2 * (length cs * length xs)) block)) (answer k block)

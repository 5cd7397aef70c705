-- What every bracket of an accepted row fulfils: the users' third demand for one value, its step number, and what its yes or no is.
use Rattle.std.specs.Prelude.{ℕ, zero, suc, ◌+◌, ◌<◌, ◌≤◌, ◌≡◌, ◌⊎◌, Bool, true, false, cond, ◌||◌, List, [], ◌∷◌, Float, length}
use Rattle.std.specs.Float.Ieee.{lt}
use Rattle.arith.specs.Double.{◌⊕◌, ◌⊖◌, ◌⊘◌, #2, #1e-14}
use Rattle.arith.specs.Choice.{abs}
use Rattle.sturm.specs.declared.gershgorin_bounds.Bounds.{Bounds}
use Rattle.sturm.specs.Pivots.{negative_pivots}
use Rattle.sturm.specs.Bounds.{bounds_of}
use Rattle.sturm.specs.Entries.{diagonal, off_diagonal}
use Rattle.segv.specs.declared.bisection.Bracket.{Bracket}
use Rattle.segv.specs.Bisection.{with_midpoint, converged, tighten}

-- of the matrix with the diagonal ds, the roots es beside it and this many entries
module _ (ds es : List Float) (entries : ℕ) where
  -- the shifts at which a place is counted from a bracket on, with an allowance of so many steps: each step's midpoint, but for the passing step's
  unfoldable pub counted_at : ℕ → ℕ → Bracket → List Float
  counted_at place zero r = []
  counted_at place (suc left) r =
      let tested = with_midpoint r in
      let later = counted_at place left (tighten (negative_pivots ds es entries tested.value) place tested) in
      cond (converged tested) [] (tested.value ∷ later)

  -- was 1e-30 put in during any count at these shifts
  unfoldable pub any_substituted : List Float → Bool
  any_substituted [] = false
  any_substituted (x ∷ xs) = (negative_pivots ds es entries x).substituted || any_substituted xs

  -- A place's yes or no is over all counts made for it, from the bracket on that it was opened with, and over no others. There is one for each step but the passing one.
  pub record OwnCounts (allowance place : ℕ) (r : Bracket) : Type 0 where
    pub opened : Bracket
    pub one_a_step : r.steps ≡ length (counted_at place allowance opened) + 1
    pub flag : r.substituted ≡ any_substituted (counted_at place allowance opened)

module _ (ds es : List Float) (entries : ℕ) (bounds : Bounds) where
  -- fewer negative pivots than the place's number, or the lower Gershgorin bound
  abbrev pub Below : ℕ → Float → Type 0
  Below place x = (x ≡ bounds.lower) ⊎ ((negative_pivots ds es entries x).negative < place)

  -- that many or more, or the upper Gershgorin bound
  abbrev pub Above : ℕ → Float → Type 0
  Above place x = (x ≡ bounds.upper) ⊎ (place ≤ (negative_pivots ds es entries x).negative)

  pub record Sound (allowance place : ℕ) (r : Bracket) : Type 0 where
    -- the value is the rounded midpoint
    pub midpoint : r.value ≡ (r.upper ⊕ r.lower) ⊘ #2
    -- the rounded gap over the value, rounded, is below 1e-14 in size
    pub gap : lt (abs ((r.upper ⊖ r.lower) ⊘ r.value)) #1e-14 ≡ true
    pub below : Below place r.lower
    pub above : Above place r.upper
    -- a step at least, and no more than were allowed
    pub stepped : 1 ≤ r.steps
    pub allowed : r.steps ≤ allowance
    pub own : OwnCounts ds es entries allowance place r

-- with the matrix and the bounds of a parity
abbrev pub SoundIn : ℕ → ℕ → Float → ℕ → ℕ → ℕ → Bracket → Type 0
SoundIn m parity cs entries allowance place r =
    Sound (diagonal m parity cs entries) (off_diagonal m parity cs entries) entries
    (bounds_of (diagonal m parity cs entries) (off_diagonal m parity cs entries) entries)
    allowance place r

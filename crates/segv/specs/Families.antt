-- The places of one parity, bisected in order. Definitions only.
use Rattle.std.specs.Prelude.{ℕ, zero, suc, ◌+◌, ◌-◌, ◌/◌, Bool, false, cond, ◌||◌, List, eqb, Float, set, replicate, Result, Ok, Err, is_err}
use Rattle.std.specs.Float.Ieee.{lt}
use Rattle.arith.specs.Double.{#0, at}
use Rattle.arith.specs.Choice.{greater}
use Rattle.sturm.specs.declared.gershgorin_bounds.Bounds.{Bounds}
use Rattle.sturm.specs.Bounds.{bounds_of}
use Rattle.sturm.specs.Entries.{diagonal, off_diagonal}
use Rattle.segv.specs.declared.bisection.Bracket.{Bracket}
use Rattle.segv.specs.declared.bisection.OutOfSteps.{OutOfSteps}
use Rattle.segv.specs.declared.ends.Ends.{Ends}
use Rattle.segv.specs.Bisection.{Search, bisection}

-- ---- the bracket that a place starts from

-- the first of n uppers from i on that is below x, or x if there is none
unfoldable pub first_below : List Float → Float → ℕ → ℕ → Float
first_below us x i zero = x
first_below us x i (suc n) = let r = first_below us x (i + 1) n in cond (lt (at us i) x) (at us i) r

-- the lower of the place at p, or that of the place before, if that is higher
unfoldable pub raised : List Float → ℕ → Float
raised ls p = cond (eqb p 0) (at ls p) (greater (at ls p) (at ls (p - 1)))

-- a bracket before its first step
abbrev pub between : Float → Float → Bracket
between lower upper = record { value = #0; lower = lower; upper = upper; steps = 0; substituted = false }

-- before the place at p is bisected, its upper falls to the first smaller upper of a later place, and its lower rises to that of the place before; no count is its own yet
unfoldable pub opened_at : Ends → ℕ → ℕ → Bracket
opened_at s p places = between (raised s.lowers p) (first_below s.uppers (at s.uppers p) (p + 1) (places - (p + 1)))

-- ---- all places of a parity

-- the brackets of a parity's places, or, where one of them was out of steps, those with the brackets found before it
abbrev pub Family : Type 0
Family = Result (List Bracket) (List Bracket)

-- what comes of a search: `out` where it was out of steps, or what `next` gives of the bracket found
abbrev pub on_search : Search → List Bracket → (Bracket → Family) → Family
on_search (Ok r) out next = next r
on_search (Err e) out next = Err out

unfoldable pub blank_bracket : Bracket
blank_bracket = between #0 #0

-- every bracket of a parity starts from the Gershgorin bounds
abbrev pub ends_within : Bounds → Ends
ends_within bounds = record { uppers = replicate 100 bounds.upper; lowers = replicate 100 bounds.lower }

-- of the matrix with the diagonal ds, the roots es beside it and this many entries; each place has an allowance of so many steps
module _ (ds es : List Float) (entries places allowance : ℕ) where
  -- n places from the one at p on; s has the ends so far and `out` the brackets found so far. The first place that is out of steps stops the family.
  -- The lower found is kept, since the next place's may rise to it. The upper found is not, though the source keeps both: a place looks at its own upper and at those of later places only.
  unfoldable pub family_from : ℕ → ℕ → Ends → List Bracket → Family
  family_from zero p s out = Ok out
  family_from (suc n) p s out =
      let b = bisection ds es entries places (p + 1) allowance (opened_at s p places) s in
      on_search b.found out (λ r. family_from n (p + 1) (record { uppers = b.ends.uppers; lowers = set b.ends.lowers p r.lower }) (set out p r))

  unfoldable pub bisected_family : Bounds → Family
  bisected_family bounds = family_from places 0 (ends_within bounds) (replicate 100 blank_bracket)

-- the family of a parity, 0 even and 1 odd
unfoldable pub family_of : ℕ → ℕ → Float → ℕ → ℕ → ℕ → Family
family_of m parity cs entries places allowance =
    let ds = diagonal m parity cs entries in
    let es = off_diagonal m parity cs entries in
    bisected_family ds es entries places allowance (bounds_of ds es entries)

-- ---- both families of the modes from m to n

-- whether a place of a family was out of steps
abbrev pub stopped : Family → Bool
stopped f = is_err f

-- the brackets of a family, of one that stopped those found so far
abbrev pub brackets : Family → List Bracket
brackets (Ok out) = out
brackets (Err out) = out

-- what a family hands on: of one that stopped no bracket
abbrev pub handed_on : Family → Result (List Bracket) OutOfSteps
handed_on (Ok out) = Ok out
handed_on (Err out) = Err (record {})

pub record Families : Type 0 where
  pub even : Family
  pub odd : Family

-- for each parity (n − m + 2)/2 places are bisected, so that there may be an odd place beyond n
unfoldable pub both_families : ℕ → ℕ → Float → ℕ → ℕ → Families
both_families m n cs entries allowance =
    record {
      even = family_of m 0 cs entries ((n - m + 2) / 2) allowance;
      odd = family_of m 1 cs entries ((n - m + 2) / 2) allowance;
    }

-- a place of either was out of steps
unfoldable pub either_stopped : Families → Bool
either_stopped r = stopped r.even || stopped r.odd

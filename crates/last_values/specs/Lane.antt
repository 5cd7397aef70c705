-- One family bisected step by step: what it comes to from any step on. Definitions only.
use Rattle.std.specs.Prelude.{ℕ, zero, suc, ◌+◌, ◌-◌, ◌*◌, ◌<◌, ◌≡◌, Bool, true, false, cond, List, ltb, eqb, Float, set, Option, Some, None, Result, Ok, Err, is_some}
use Rattle.arith.specs.Double.{◌⊕◌, ◌⊘◌, #0, #2}
use Rattle.sturm.specs.Pivots.{negative_pivots}
use Rattle.segv.specs.declared.bisection.Bracket.{Bracket}
use Rattle.segv.specs.declared.bisection.OutOfSteps.{OutOfSteps}
use Rattle.segv.specs.declared.ends.Ends.{Ends}
use Rattle.segv.specs.Bisection.{Search, bisection}
use Rattle.segv.specs.Families.{between, opened_at}
use Rattle.last_values.specs.declared.lane.Lane.{Lane}

-- what a family comes to: the value of the last place, or that a place was out of steps
abbrev pub Last : Type 0
Last = Result Float OutOfSteps

abbrev pub on_found : Search → (Bracket → Last) → Last
on_found (Ok r) next = next r
on_found (Err e) next = Err e

abbrev pub outcome_or : Option Last → Last → Last
outcome_or (Some r) later = r
outcome_or None later = later

-- of the matrix with the diagonal d, the roots e beside it and this many entries
module _ (d e : List Float) (entries places allowance : ℕ) where
  -- n places from the one at p on, as `family_from` has them; v is the value of the place before
  unfoldable pub last_from : ℕ → ℕ → Ends → Float → Last
  last_from zero p s v = Ok v
  last_from (suc n) p s v =
      let b = bisection d e entries places (p + 1) allowance (opened_at s p places) s in
      on_found b.found (λ r. last_from n (p + 1) (record { uppers = b.ends.uppers; lowers = set b.ends.lowers p r.lower }) r.value)

  -- the place at p, of whose allowance so many steps are left, from this bracket on, and then the places after it
  unfoldable pub resumed : ℕ → ℕ → Float → Float → Ends → Last
  resumed p left lower upper s =
      let b = bisection d e entries places (p + 1) left (between lower upper) s in
      on_found b.found (λ r. last_from (places - (p + 1)) (p + 1) (record { uppers = b.ends.uppers; lowers = set b.ends.lowers p r.lower }) r.value)

  -- what a lane comes to
  unfoldable pub comes_to : Lane → Last
  comes_to l = outcome_or l.outcome (resumed l.index l.left l.lower l.upper l.ends)

-- the midpoint x becomes an end of the bracket, by the number counted at it
abbrev pub halve : Lane → Float → ℕ → Lane
halve l x negative =
    record l {
      lower = cond (ltb negative (l.index + 1)) x l.lower;
      upper = cond (ltb negative (l.index + 1)) l.upper x;
      left = l.left - 1;
    }

-- a lane that starts the place at p, the ends of whose places are s
abbrev pub started_at : ℕ → ℕ → ℕ → Ends → Lane
started_at p places allowance s =
    let r = opened_at s p places in
    record { lower = r.lower; upper = r.upper; index = p; left = allowance; outcome = None; ends = s }

-- a lane that is through
abbrev pub ending : Lane → Last → Lane
ending l r = record l { outcome = Some r }

-- the lane once the place at its index has the value x
abbrev pub next_lane : Lane → Float → ℕ → ℕ → Lane
next_lane l x places allowance =
    let s : Ends = record { uppers = l.ends.uppers; lowers = set l.ends.lowers l.index l.lower } in
    cond (eqb (l.index + 1) places) (record l { outcome = Some (Ok x); ends = s }) (started_at (l.index + 1) places allowance s)

-- where the next step counts
abbrev pub midpoint_of : Lane → Float
midpoint_of l = (l.upper ⊕ l.lower) ⊘ #2

-- whether a place was out of steps
abbrev pub stopped_in : Option Last → Bool
stopped_in (Some (Err e)) = true
stopped_in (Some (Ok v)) = false
stopped_in None = false

-- the last place's value, and 0 where there is none
abbrev pub value_in : Option Last → Float
value_in (Some (Ok v)) = v
value_in (Some (Err e)) = #0
value_in None = #0

-- more than the steps that a lane can still take
unfoldable pub weight : ℕ → ℕ → Lane → ℕ
weight places allowance l = cond (is_some l.outcome) 0 (1 + l.left + (places - (l.index + 1)) * (allowance + 1))

-- a step of a lane: it comes to the same, if the number is the count at its midpoint
pub record Stepped (places allowance negative : ℕ) (l l' : Lane) : Type 0 where
  pub comes : (d e : List Float) (entries : ℕ) → negative ≡ (negative_pivots d e entries (midpoint_of l)).negative → comes_to d e entries places allowance l' ≡ comes_to d e entries places allowance l
  pub inside : l'.outcome ≡ None → l'.index < places
  pub kept : is_some l.outcome ≡ true → is_some l'.outcome ≡ true
  pub less : l.outcome ≡ None → weight places allowance l' < weight places allowance l

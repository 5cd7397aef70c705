-- The bisection of one place. 'Place' is document 01's word: the number, from 1, of a characteristic value among those of its parity. Definitions only.
use Rattle.std.specs.Prelude.{ℕ, zero, suc, ◌+◌, ◌-◌, Bool, cond, ◌||◌, List, ltb, leb, Float, set, Result, Ok, Err}
use Rattle.std.specs.Float.Ieee.{lt}
use Rattle.arith.specs.Double.{◌⊕◌, ◌⊖◌, ◌⊘◌, #2, #1e-14, at}
use Rattle.arith.specs.Choice.{abs, lesser, greater}
use Rattle.sturm.specs.declared.pivots.Count.{Count}
use Rattle.sturm.specs.Pivots.{negative_pivots}
use Rattle.segv.specs.declared.bisection.Bracket.{Bracket}
use Rattle.segv.specs.declared.bisection.OutOfSteps.{OutOfSteps}
use Rattle.segv.specs.declared.ends.Ends.{Ends}

-- ---- a place's own bracket

-- a step forms the midpoint (upper + lower)/2, which becomes the value; the step counts
unfoldable pub with_midpoint : Bracket → Bracket
with_midpoint r = record { value = (r.upper ⊕ r.lower) ⊘ #2; lower = r.lower; upper = r.upper; steps = r.steps + 1; substituted = r.substituted }

-- |(upper − lower)/midpoint| < 1e-14
unfoldable pub converged : Bracket → Bool
converged r = lt (abs ((r.upper ⊖ r.lower) ⊘ r.value)) #1e-14

-- a count below this place's number makes the midpoint the lower, any other count the upper; a yes stays a yes
unfoldable pub tighten : Count → ℕ → Bracket → Bracket
tighten count place r =
    record {
      value = r.value;
      lower = cond (ltb count.negative place) r.value r.lower;
      upper = cond (ltb count.negative place) r.upper r.value;
      steps = r.steps;
      substituted = r.substituted || count.substituted;
    }

-- ---- the brackets of the other places

-- `Ends` has the ends of all brackets of a parity; the place q has those at q − 1.
-- Where a count makes the midpoint a place's upper, a count that reaches the number of places makes it the last place's upper too.
-- A smaller count raises the lower of the place after the counted one to it, and lowers the upper of the counted place to it, where that tightens.
unfoldable pub tighten_counted : ℕ → Count → Float → Ends → Ends
tighten_counted places count midpoint s =
    cond (leb places count.negative)
    (record { uppers = set s.uppers (places - 1) midpoint; lowers = s.lowers })
    (record {
      uppers = set s.uppers (count.negative - 1) (lesser (at s.uppers (count.negative - 1)) midpoint);
      lowers = set s.lowers count.negative (greater (at s.lowers count.negative) midpoint);
    })

-- a count below this place's number says nothing of the others
unfoldable pub tighten_others : ℕ → ℕ → Count → Float → Ends → Ends
tighten_others places place count midpoint s = cond (leb place count.negative) (tighten_counted places count midpoint s) s

-- ---- the bisection

-- what a bisection comes to: a bracket that converged, or that the place is out of steps
abbrev pub Search : Type 0
Search = Result Bracket OutOfSteps

-- what a bisection found, and the ends as it leaves them
pub record Outcome : Type 0 where
  pub found : Search
  pub ends : Ends

-- of the matrix with the diagonal ds, the roots es beside it and this many entries
module _ (ds es : List Float) (entries places : ℕ) where
  -- With an allowance of so many steps: the passing step's bracket is the one that its test used. Where no step is left, the place is out of steps.
  unfoldable pub bisection : ℕ → ℕ → Bracket → Ends → Outcome
  bisection place zero r s = record { found = Err (record {}); ends = s }
  bisection place (suc left) r s =
      let tested = with_midpoint r in
      let count = negative_pivots ds es entries tested.value in
      let later = bisection place left (tighten count place tested) (tighten_others places place count tested.value s) in
      cond (converged tested) (record { found = Ok tested; ends = s }) later

-- Midpoints of three steps, and the counts at them. Definitions only.
use Rattle.std.specs.Prelude.{ℕ, Bool, false, cond, ltb, Float}
use Rattle.arith.specs.Double.{◌⊕◌, ◌⊘◌, #2}
use Rattle.sturm.specs.declared.pivots.Seven.{Seven}
use Rattle.sturm.specs.declared.pivots.Counts.{Counts}
use Rattle.segv.specs.declared.bisection.Bracket.{Bracket}

-- r has its midpoint for value; l and h are the midpoints of its lower and upper half, ll to hh those of its quarters
abbrev pub midpoints_ahead : Bracket → Seven Float
midpoints_ahead r =
    let l = (r.value ⊕ r.lower) ⊘ #2 in
    let h = (r.upper ⊕ r.value) ⊘ #2 in
    record {
      x = r.value;
      l = l;
      h = h;
      ll = (l ⊕ r.lower) ⊘ #2;
      lh = (r.value ⊕ l) ⊘ #2;
      hl = (h ⊕ r.value) ⊘ #2;
      hh = (r.upper ⊕ h) ⊘ #2;
    }

-- those of the upper or of the lower half
abbrev pub half_of : {A : Type 0} → Bool → A → Seven A → Seven A
half_of upper nothing s = record { x = cond upper s.h s.l; l = cond upper s.hl s.ll; h = cond upper s.hh s.lh; ll = nothing; lh = nothing; hl = nothing; hh = nothing }

-- a count below the place's number leaves the upper half, any other count the lower
abbrev pub counts_after : ℕ → Counts → Counts
counts_after place k = record { negative = half_of (ltb k.negative.x place) 0 k.negative; substituted = half_of (ltb k.negative.x place) false k.substituted }

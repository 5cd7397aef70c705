-- `segv::bisection::bisect` meets its contract. The invariant: what is left to do gives the whole answer, each step is counted, and the known counts are those at the midpoints to come. Assumes nothing.
use Rattle.segv.proofs.Ahead.{Known}
use Prim.Native.Nat.{◌-◌}
use mathlib.Core.Path.{◌≡◌}
use Rattle.sturm.specs.Pivots.{negative_pivots}
use Rattle.segv.specs.Bisection.{bisection}
use Rattle.segv.proofs.bisection.bisect.Given as goal

abbrev pub invariant-loop-step : goal.invariant-loop-step
invariant-loop-step l =
    (l.r.steps ≡ l._step)
    × (bisection l.matrix.d l.matrix.e l.matrix.entries l.limits.places l.place (l.limits.allowance - l._step) l.r l.ends ≡ bisection l.matrix.d l.matrix.e l.matrix.entries l.limits.places l.place l.limits.allowance l.initial.r l.initial.ends)
    × Known (negative_pivots l.matrix.d l.matrix.e l.matrix.entries) l.known l.r.lower l.r.upper l.counts

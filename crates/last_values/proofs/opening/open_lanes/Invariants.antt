-- `last_values::opening::open_lanes` meets its contract. The invariant: the first j lanes are open. Assumes nothing.
use Rattle.last_values.proofs.Rows.{Openings}
use Rattle.last_values.proofs.opening.open_lanes.Given as goal

abbrev pub invariant-loop-j : goal.invariant-loop-j
invariant-loop-j l = Openings l.m l.cs l.entries l.limits.places l.limits.allowance l.matrices l.lanes l.j

-- `last_values::running::midpoints` meets its contract. The invariant: the first j midpoints are in place. Assumes nothing.
use lib.Ieee.{nan}
use Rattle.lanes.proofs.Laws.{Stored}
use Rattle.last_values.specs.Lane.{midpoint_of}
use Rattle.last_values.specs.Lanes.{lane_of}
use Rattle.last_values.proofs.running.midpoints.Given as goal

abbrev pub invariant-loop-j : goal.invariant-loop-j
invariant-loop-j l = Stored nan (λ k. k) (λ k. midpoint_of (lane_of l.lanes k)) l.initial.out l.out l.j

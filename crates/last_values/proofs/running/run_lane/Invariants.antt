-- `last_values::running::run_lane` meets its contract. The invariant: each lane comes to what it came to. Assumes nothing.
use Rattle.last_values.specs.Lane.{weight}
use Rattle.last_values.specs.Lanes.{lane_of, Went}
use Rattle.last_values.proofs.running.run_lane.Given as goal

abbrev pub invariant-loop-limits : goal.invariant-loop-limits
invariant-loop-limits l = Went l.matrices l.limits.places l.limits.allowance l.initial.lanes l.lanes

abbrev pub decreases-loop-limits : goal.decreases-loop-limits
decreases-loop-limits l = weight l.limits.places l.limits.allowance (lane_of l.lanes l.j)

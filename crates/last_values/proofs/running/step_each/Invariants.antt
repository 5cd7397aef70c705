-- `last_values::running::step_each` meets its contract. The invariant: the first j lanes have made their step. Assumes nothing.
use Rattle.last_values.proofs.Each.{Each}
use Rattle.last_values.proofs.running.step_each.Given as goal

abbrev pub invariant-loop-j : goal.invariant-loop-j
invariant-loop-j l = Each l.limits.places l.limits.allowance l.negative l.initial.lanes l.lanes l.j

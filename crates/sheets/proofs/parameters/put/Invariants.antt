-- `sheets::parameters::put` meets its contract. The invariant: the first q values are in place. Assumes nothing.
use Prim.Native.Nat.{◌+◌, ◌-◌, ◌≤◌}
use lib.Ieee.{nan}
use Rattle.arith.specs.Double.{at}
use Rattle.lanes.proofs.Laws.{Stored}
use Rattle.sheets.proofs.parameters.put.Given as goal

abbrev pub invariant-loop-q : goal.invariant-loop-q
invariant-loop-q l = Stored nan (λ k. l.i + k) (at l.values) l.initial.cvs l.cvs l.q

-- `last_values::values::values_of` meets its contract. The invariant: the first q values are in place. Assumes nothing.
use Prim.Native.Nat.{◌+◌, ◌*◌}
use lib.Ieee.{nan}
use Rattle.lanes.proofs.Laws.{Stored}
use Rattle.last_values.specs.Lane.{value_in}
use Rattle.last_values.specs.Lanes.{lane_of}
use Rattle.last_values.proofs.values.values_of.Given as goal

abbrev pub invariant-loop-q : goal.invariant-loop-q
invariant-loop-q l = Stored nan (λ k. k) (λ k. value_in (lane_of l.lanes (2 * k + l.parity)).outcome) l.initial.out l.out l.q

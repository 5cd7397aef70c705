-- `sheets::parameters::Rows::four_cs` meets its contract. The invariant: the first q are in place. Assumes nothing.
use Prim.Native.Nat.{◌+◌, ◌-◌, ◌≤◌}
use lib.Ieee.{nan}
use Rattle.arith.specs.Double.{at}
use Rattle.lanes.proofs.Laws.{Stored}
use Rattle.requests.specs.Refusals.{cs_of}
use Rattle.sheets.specs.Sheet.{mode_with}
use Rattle.sheets.proofs.parameters.Rows.four_cs.Given as goal

abbrev pub invariant-loop-q : goal.invariant-loop-q
invariant-loop-q l = Stored nan (λ k. k) (λ k. cs_of l.self.kind (mode_with l.self.m l.self.n (at l.cs (l.i + k)))) l.initial.out l.out l.q

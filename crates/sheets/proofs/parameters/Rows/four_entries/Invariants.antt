-- `sheets::parameters::Rows::four_entries` meets its contract. The invariant: the first q are in place. Assumes nothing.
use Prim.Native.Nat.{◌+◌, ◌-◌, ◌≤◌}
use Rattle.arith.specs.Double.{at}
use Rattle.lanes.proofs.Laws.{Stored}
use Rattle.requests.specs.Refusals.{entries_of}
use Rattle.sheets.specs.Sheet.{mode_with}
use Rattle.sheets.proofs.parameters.Rows.four_entries.Given as goal

abbrev pub invariant-loop-q : goal.invariant-loop-q
invariant-loop-q l = Stored 0 (λ k. k) (λ k. entries_of (mode_with l.self.m l.self.n (at l.cs (l.i + k)))) l.initial.out l.out l.q

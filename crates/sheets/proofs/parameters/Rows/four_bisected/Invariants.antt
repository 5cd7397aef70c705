-- `sheets::parameters::Rows::four_bisected` meets its contract. The invariant: the first q rows are bisected. Assumes nothing.
use Prim.Native.Nat.{ℕ, ◌+◌, ◌-◌, ◌≤◌, ◌<◌}
use lib.ListN.{length}
use Rattle.arith.specs.Double.{at}
use Rattle.sheets.specs.Inside.Parameters.{Bisected}
use Rattle.sheets.proofs.parameters.Rows.four_bisected.Given as goal

abbrev pub invariant-loop-q : goal.invariant-loop-q
invariant-loop-q l = (l.i + 4 ≤ length l.cs) × ((k : ℕ) → k < l.q → Bisected l.self.m l.self.n (at l.cs (l.i + k)))

-- `last_values::running::run` meets its contract. The invariant: each lane comes to what it came to, and the first j are through. Assumes nothing.
use Prim.Native.Nat.{ℕ, ◌<◌}
use mathlib.Core.Path.{◌≡◌}
use mathlib.Core.Bool.{true}
use Rattle.std.specs.Prelude.{is_some}
use Rattle.last_values.specs.Lanes.{lane_of, Went}
use Rattle.last_values.proofs.running.run.Given as goal

abbrev pub invariant-loop-j : goal.invariant-loop-j
invariant-loop-j l = Went l.matrices l.limits.places l.limits.allowance l.initial.lanes l.lanes × ((i : ℕ) → i < l.j → is_some (lane_of l.lanes i).outcome ≡ true)

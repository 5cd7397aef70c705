-- `last_values::values::any_stopped` meets its contract. The invariant: the first j lanes. Assumes nothing.
use Prim.Native.Nat.{ℕ, ◌<◌}
use mathlib.Core.Path.{◌≡◌}
use mathlib.Core.Bool.{false}
use Rattle.last_values.specs.Lane.{stopped_in}
use Rattle.last_values.specs.Lanes.{lane_of}
use Rattle.last_values.proofs.values.any_stopped.Given as goal

abbrev pub invariant-loop-j : goal.invariant-loop-j
invariant-loop-j l =
    (l.stopped ≡ false → (i : ℕ) → i < l.j → stopped_in (lane_of l.lanes i).outcome ≡ false) × (((i : ℕ) → i < 8 → stopped_in (lane_of l.lanes i).outcome ≡ false) → l.stopped ≡ false)

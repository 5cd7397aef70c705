-- `damaged_streams::answer_stream` meets its contract: it reads and writes inside its buffers, and ends. Assumes nothing.
use Prim.Native.Nat.{ℕ, ◌-◌, ◌≤◌}
use mathlib.Core.Path.{◌≡◌}
use lib.ListN.{length}
use Rattle.damaged_streams.proofs.answer_stream.Given as goal

-- a call stays in what has arrived, and no record has fewer than a byte
pub record Stays (at arrived index : ℕ) : Type 0 where
  pub within : at ≤ arrived
  pub counted : index ≤ at

abbrev pub invariant-loop-i : goal.invariant-loop-i
invariant-loop-i l = (length l.out ≡ length l.initial.out) × Stays l.at l.i l.index

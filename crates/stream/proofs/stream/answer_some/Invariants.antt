-- `stream::stream::answer_some` meets its contract. The invariant: what is put so far, and what is left to do, give what the whole call gives. Assumes nothing.
use Prim.Native.Nat.{◌+◌, ◌-◌, ◌≤◌}
use mathlib.Core.Path.{◌≡◌}
use lib.ListN.{length}
use Rattle.stream.proofs.Reached as reached
use Rattle.stream.proofs.stream.answer_some.Given as goal

abbrev pub invariant-loop-out : goal.invariant-loop-out
invariant-loop-out l =
    (length l.out ≡ length l.initial.out) × (l.used ≤ length l.initial.out) × (l.index + l.from ≤ l.first + l.at) × reached.Reached l.input l.from l.first l.initial.out l.out l.at l.index l.used

abbrev pub decreases-loop-out : goal.decreases-loop-out
decreases-loop-out l = length l.input - l.at

-- `reading::answer_arrived` meets its contract: the calls are those of the definition, and each comes further. Assumes nothing.
use Prim.Native.Nat.{◌-◌}
use mathlib.Core.Path.{◌≡◌}
use lib.ListN.{length}
use Rattle.reading.proofs.Calls as calls
use Rattle.reading.proofs.answer_arrived.Given as goal

abbrev pub invariant-loop-state : goal.invariant-loop-state
invariant-loop-state g l = (length l.out ≡ length l.initial.out) × calls.Reached l.input (length l.initial.out) l.first l.at l.index

abbrev pub decreases-loop-state : goal.decreases-loop-state
decreases-loop-state g l = length l.input - l.at

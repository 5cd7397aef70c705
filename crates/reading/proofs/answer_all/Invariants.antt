-- `reading::answer_all` meets its contract: the loop is left only where it may end. Assumes nothing.
use Prim.Native.Nat.{◌-◌}
use mathlib.Core.Path.{◌≡◌}
use lib.ListN.{length}
use Rattle.reading.specs.Loop.{Goes, Keeps}
use Rattle.reading.proofs.answer_all.Given as goal

abbrev pub invariant-loop-last : goal.invariant-loop-last
invariant-loop-last g l =
    (length l.buffer ≡ length l.initial.buffer) × (length l.out ≡ length l.initial.out) × Goes l.last × Keeps (length l.initial.out) l.buffer l.last

abbrev pub decreases-loop-last : goal.decreases-loop-last
decreases-loop-last g l = 9223372036854775808 - l.last.bytes

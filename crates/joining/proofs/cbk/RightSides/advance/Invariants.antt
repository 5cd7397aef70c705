-- `joining::cbk::RightSides::advance` meets its contract. The invariant: the products below i have the factor, the others are as they were. Assumes nothing.
use mathlib.Core.Path.{◌≡◌}
use lib.ListN.{length}
use Rattle.joining.specs.Cbk.{next_r1}
use Rattle.joining.proofs.Sweep.{Swept}
use Rattle.joining.proofs.cbk.RightSides.advance.Given as goal

abbrev pub invariant-loop-i : goal.invariant-loop-i
invariant-loop-i l = (length l.r1 ≡ 200) × Swept (λ q x. next_r1 l.self.m q l.j x) l.lo l.initial.r1 l.i l.r1

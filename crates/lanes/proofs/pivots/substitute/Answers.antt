-- `lanes::pivots::substitute` meets its contract. The invariant: the pivots before the j-th are divisors, and the others are what they were. Assumes nothing.
use native.Mathlib.Omega.{arith}
use Rattle.lanes.proofs.Laws.{none_stored, one_stored, next_kept}
use Rattle.lanes.proofs.pivots.substitute.Goals as goal

pub loop-j-init : goal.loop-j-init
loop-j-init c = none_stored _ _ _ _

pub loop-j-preserved : goal.loop-j-preserved
loop-j-preserved c =
    let l = c.loop-j in
    one_stored _ _ _ _ _ l.j _ l.invariant (omega arith) (λ k less e. omega arith) (rw (← (next_kept l.j l.invariant)) c.divisor.ensures)

pub returns : goal.returns
returns c = let s = c.loop-j.invariant in record { s_len = let z = s.size in omega arith; by_index = λ j less. s.done j (omega arith) }

-- `last_values::values::values_of` meets its contract. The invariant: the first q values are in place. Assumes nothing.
use native.Mathlib.Omega.{arith}
use Rattle.lanes.proofs.Laws.{none_stored, one_stored}
use Rattle.last_values.proofs.values.values_of.Goals as goal

pub loop-q-init : goal.loop-q-init
loop-q-init c = none_stored _ _ _ _

pub loop-q-preserved : goal.loop-q-preserved
loop-q-preserved c =
    let l = c.loop-q in
    one_stored _ _ _ _ _ l.q _ l.invariant (omega arith) (λ k less e. omega arith) c.value.ensures

pub returns : goal.returns
returns c q less = c.loop-q.invariant.done q (omega arith)

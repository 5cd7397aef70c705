-- `last_values::running::midpoints` meets its contract. The invariant: the first j midpoints are in place. Assumes nothing.
use native.Mathlib.Omega.{arith}
use Rattle.lanes.proofs.Laws.{none_stored, one_stored}
use Rattle.last_values.proofs.running.midpoints.Goals as goal

pub loop-j-init : goal.loop-j-init
loop-j-init c = none_stored _ _ _ _

pub loop-j-preserved : goal.loop-j-preserved
loop-j-preserved c =
    let l = c.loop-j in
    one_stored _ _ _ _ _ l.j _ l.invariant (omega arith) (λ k less e. omega arith) c.midpoint.ensures

pub returns : goal.returns
returns c j less = c.loop-j.invariant.done j (omega arith)

-- `last_values::running::step_each` meets its contract. The invariant: the first j lanes have made their step. Assumes nothing.
use native.Mathlib.Omega.{arith}
use Rattle.last_values.proofs.Each.{each_none, each_on}
use Rattle.last_values.proofs.running.step_each.Goals as goal

pub loop-j-init : goal.loop-j-init
loop-j-init c = each_none _ _ _ _ (omega arith)

pub step-requires : goal.step-requires
step-requires c =
    let l = c.loop-j in
    rw (l.invariant.rest l.j (omega arith)) (c.requires l.j (omega arith))

pub loop-j-preserved : goal.loop-j-preserved
loop-j-preserved c =
    let l = c.loop-j in
    each_on _ _ _ _ _ l.j l.invariant (omega arith) _ c.step.ensures

pub returns : goal.returns
returns c =
    let e = c.loop-j.invariant in
    record { by_index = λ j less. e.done j (omega arith); eight = e.eight }

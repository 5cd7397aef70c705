-- `sheets::parameters::put` meets its contract. The invariant: the first q values are in place. Assumes nothing.
use mathlib.Core.Path.{refl}
use native.Mathlib.Omega.{arith}
use Rattle.lanes.proofs.Laws.{none_stored, one_stored}
use Rattle.sheets.proofs.parameters.put.Goals as goal

pub loop-q-init : goal.loop-q-init
loop-q-init c = none_stored _ _ _ _

pub loop-q-preserved : goal.loop-q-preserved
loop-q-preserved c =
    let l = c.loop-q in
    one_stored _ _ _ _ _ l.q _ l.invariant (omega arith) (λ k less e. omega arith) refl

pub returns : goal.returns
returns c =
    let s = c.loop-q.invariant in
    record { size = s.size; new = λ q less. s.done q (omega arith); kept = λ j less. s.kept j (λ k l e. omega arith) }

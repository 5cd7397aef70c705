-- `sheets::parameters::Rows::four_cs` meets its contract. The invariant: the first q are in place. Assumes nothing.
use mathlib.Core.Path.{ap, ◌∙◌}
use native.Mathlib.Omega.{arith}
use Rattle.requests.specs.Refusals.{cs_of}
use Rattle.lanes.proofs.Laws.{none_stored, one_stored}
use Rattle.sheets.proofs.parameters.Rows.four_cs.Goals as goal

pub loop-q-init : goal.loop-q-init
loop-q-init c = none_stored _ _ _ _

pub loop-q-preserved : goal.loop-q-preserved
loop-q-preserved c =
    let l = c.loop-q in
    one_stored _ _ _ _ _ l.q _ l.invariant (omega arith) (λ k less e. omega arith) (c.cs.ensures ∙ ap (cs_of c.args.self.kind) c.mode-mode.ensures)

pub returns : goal.returns
returns c q less = c.loop-q.invariant.done q (omega arith)

-- `sheets::parameters::Rows::four_entries` meets its contract. The invariant: the first q are in place. Assumes nothing.
use mathlib.Core.Path.{ap, ◌∙◌}
use native.Mathlib.Omega.{arith}
use Rattle.requests.specs.Refusals.{row_refusal, entries_of}
use Rattle.lanes.proofs.Laws.{none_stored, one_stored}
use Rattle.sheets.proofs.parameters.Rows.four_entries.Goals as goal

pub loop-q-init : goal.loop-q-init
loop-q-init c = none_stored _ _ _ _

pub entries-requires : goal.entries-requires
entries-requires c = ap row_refusal c.mode-mode.ensures ∙ (c.requires.bisected c.loop-q.q (omega arith)).0

pub loop-q-preserved : goal.loop-q-preserved
loop-q-preserved c =
    let l = c.loop-q in
    one_stored _ _ _ _ _ l.q _ l.invariant (omega arith) (λ k less e. omega arith) (c.entries.ensures ∙ ap entries_of c.mode-mode.ensures)

pub returns : goal.returns
returns c q less = c.loop-q.invariant.done q (omega arith)

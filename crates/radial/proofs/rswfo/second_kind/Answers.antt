-- `radial::rswfo::second_kind` meets its contract. Assumes nothing.
use mathlib.Core.Path.{sym, ◌∙◌}
use Rattle.radial.proofs.Laws.{kept, lost, not_tried}
use Rattle.radial.proofs.rswfo.second_kind.Goals as goal
use Rattle.radial.proofs.rswfo.second_kind.Goals.{then-x+in_default, else-x}

pub returns-in-Some : goal.returns-in-Some
returns-in-Some c = kept _ _ _ _ _ _ _ c.if-x.true _ (sym c.rmn2l.ensures ∙ c.in-Some.is)

pub returns : goal.returns
returns c = elim c.if-x.branch [ then-x+in_default w ↦ c.second_by_so.ensures ∙ lost _ _ _ _ _ _ _ w.if-x.true (sym w.rmn2l.ensures ∙ w.in_default.is) | else-x w ↦ c.second_by_so.ensures ∙ not_tried _ _ _ _ _ _ _ w.if-x.false ]

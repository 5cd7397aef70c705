-- `last_values::lane::Lane::step` meets its contract. Assumes nothing.
use mathlib.Core.Path.{sym, ◌∙◌}
use Rattle.last_values.proofs.Laws as laws
use Rattle.last_values.proofs.lane.Lane.step.Goals as goal

pub returns-then-is_some : goal.returns-then-is_some
returns-then-is_some c = laws.stepped_ended _ _ _ _ (sym c.is_some.ensures ∙ c.if-is_some.true)

pub returns-then-self-eq0 : goal.returns-then-self-eq0
returns-then-self-eq0 c = laws.stepped_out _ _ _ _ (laws.none_is _ (sym c.is_some.ensures ∙ c.if-is_some.false)) c.if-self-eq0.true

pub next_place-requires : goal.next_place-requires
next_place-requires c = c.requires (laws.none_is _ (sym c.is_some.ensures ∙ c.if-is_some.false))

pub returns-then-converged : goal.returns-then-converged
returns-then-converged c =
    let on = laws.none_is _ (sym c.is_some.ensures ∙ c.if-is_some.false) in
    laws.stepped_next _ _ _ _ on (c.requires on) c.if-self-eq0.false _ c.midpoint-x.ensures _ c.converged.ensures c.if-converged.true _ c.next_place.ensures

pub returns : goal.returns
returns c =
    let on = laws.none_is _ (sym c.is_some.ensures ∙ c.if-is_some.false) in
    laws.stepped_on _ _ _ _ on (c.requires on) c.if-self-eq0.false _ c.midpoint-x.ensures _ c.converged.ensures _ _ c.if-converged.false c.tighten_others.ensures c.halve.ensures

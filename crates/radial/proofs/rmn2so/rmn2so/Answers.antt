-- `radial::rmn2so::rmn2so` meets its contract. Assumes nothing.
use mathlib.Core.Path.{◌∙◌}
use Rattle.radial.proofs.Laws.{second_large, second_on_disc, second_off_disc}
use Rattle.radial.proofs.rmn2so.rmn2so.Goals as goal

pub returns-then-abs : goal.returns-then-abs
returns-then-abs c = second_large _ _ _ _ _ _ _ _ _ c.abs.ensures c.if-abs.true

pub returns-then-x : goal.returns-then-x
returns-then-x c = second_on_disc _ _ _ _ _ _ _ _ _ c.abs.ensures c.if-abs.false _ c.qstar-factors.result c.cbk-bk.result c.kmn-ck1.ensures c.qstar-factors.ensures c.cbk-bk.ensures c.if-x.true _ _ _ (c.second_terms-nm.ensures.value ∙ rw c.offset.ensures.value) c.powers_sum-sum.ensures (c.combined.ensures ∙ rw c.parity.ensures.value)

pub returns : goal.returns
returns c = second_off_disc _ _ _ _ _ _ _ _ _ c.abs.ensures c.if-abs.false _ c.qstar-factors.result c.cbk-bk.result c.kmn-ck1.ensures c.qstar-factors.ensures c.cbk-bk.ensures c.if-x.false _ _ c.gmn-g.ensures c.turned.ensures

-- `radial_sums::rmn1::off_disc` meets its contract. Assumes nothing.
use borrow.Author.Tests.{eq-eqb, ne_eqb}
use Rattle.bessel.specs.Sphj.{blank}
use Rattle.radial_sums.proofs.Laws.{no_order, with_order}
use Rattle.radial_sums.proofs.rmn1.off_disc.Goals as goal

pub returns-then-orders-eq0 : goal.returns-then-orders-eq0
returns-then-orders-eq0 c =
    let a = c.args.at.now in
    no_order _ _ _ _ _ a.common _ _ a.common_value c.top-top.ensures.value c.find_orders-orders.ensures.value (eq-eqb _ _ c.if-orders-eq0.true)

pub sphj-requires-clause-sj_value : goal.sphj-requires-clause-sj_value
unfolding blank
sphj-requires-clause-sj_value c = (c.filled-sj.ensures, c.filled-dj.ensures)

pub returns : goal.returns
returns c =
    let a = c.args.at.now in
    let j = c.sphj.ensures in
    with_order _ _ _ _ _ a.common _ _ a.common_value c.top-top.ensures.value c.find_orders-orders.ensures.value (ne_eqb _ _ c.if-orders-eq0.false) c.series.result _ _ c.both_sums-sums.result _ c.series.ensures j.sj_after j.dj_after c.both_sums-sums.ensures c.joined.ensures

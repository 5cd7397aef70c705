-- `radial_sums::rmn2l::rmn2l` meets its contract. Assumes nothing.
use mathlib.Core.Path.{sym}
use borrow.Author.Tests.{le-leb, lt-leb}
use Rattle.bessel.specs.Sphj.{blank}
use Rattle.radial_sums.proofs.Laws.{too_few_orders, value_lost, slope_lost, both_kept}
use Rattle.radial_sums.proofs.rmn2l.rmn2l.Goals as goal

pub sphy-highest-requires-clause-sy_value : goal.sphy-highest-requires-clause-sy_value
unfolding blank
sphy-highest-requires-clause-sy_value c = (c.filled-sy.ensures, c.filled-dy.ensures)

pub returns-then-highest-f : goal.returns-then-highest-f
returns-then-highest-f c =
    let a = c.args.at.now in
    let y = c.sphy-highest.ensures in
    too_few_orders _ _ _ _ _ a.common c.series-t.result _ _ _ _ c.large_sum-f.result a.common_value c.series-t.ensures c.top.ensures.value y.value y.sy_after y.dy_after c.large_sum-f.ensures (le-leb _ _ c.if-highest-f.true)

pub returns-then-lost : goal.returns-then-lost
returns-then-lost c =
    let a = c.args.at.now in
    let y = c.sphy-highest.ensures in
    value_lost _ _ _ _ _ a.common c.series-t.result _ _ _ _ c.large_sum-f.result a.common_value c.series-t.ensures c.top.ensures.value y.value y.sy_after y.dy_after c.large_sum-f.ensures (lt-leb _ _ c.if-highest-f.false) (sym c.if-lost.ensures)

pub returns-then-lost-2 : goal.returns-then-lost-2
returns-then-lost-2 c =
    let a = c.args.at.now in
    let y = c.sphy-highest.ensures in
    slope_lost _ _ _ _ _ a.common c.series-t.result _ _ _ _ c.large_sum-f.result a.common_value c.series-t.ensures c.top.ensures.value y.value y.sy_after y.dy_after c.large_sum-f.ensures (lt-leb _ _ c.if-highest-f.false) (sym c.if-lost.ensures) c.large_sum-d.result c.large_sum-d.ensures (sym c.if-lost-2.ensures)

pub returns : goal.returns
returns c =
    let a = c.args.at.now in
    let y = c.sphy-highest.ensures in
    both_kept _ _ _ _ _ a.common c.series-t.result _ _ _ _ c.large_sum-f.result a.common_value c.series-t.ensures c.top.ensures.value y.value y.sy_after y.dy_after c.large_sum-f.ensures (lt-leb _ _ c.if-highest-f.false) (sym c.if-lost.ensures) c.large_sum-d.result c.large_sum-d.ensures (sym c.if-lost-2.ensures) _ c.joined.ensures

-- `routines_sphj` meets its contract. Assumes nothing.
use borrow.Author.Tests.{eq-eqb, ne_eqb}
use Rattle.bessel.specs.Sphj.{blank}
use Rattle.routines_c.proofs.routines_sphj.Goals as goal

pub sphj-requires : goal.sphj-requires
unfolding blank
sphj-requires c =
    let p = c.requires in
    let o = c.find_orders-orders.ensures in
    record { le_n = (p.0, p.1, o.value); nm_le_n = o.nm_le_n; sj_value = (c.filled.ensures, c.filled-2.ensures) }

pub returns-then-from-eq0 : goal.returns-then-from-eq0
returns-then-from-eq0 c = record { value = rw (← c.find_orders-orders.ensures.value, eq-eqb _ _ c.if-from-eq0.true); sj_after = (c.sphj.ensures.sj_after, c.sphj.ensures.dj_after) }

pub returns : goal.returns
returns c = record { value = rw (← c.find_orders-orders.ensures.value, ne_eqb _ _ c.if-from-eq0.false); sj_after = (c.sphj.ensures.sj_after, c.sphj.ensures.dj_after) }

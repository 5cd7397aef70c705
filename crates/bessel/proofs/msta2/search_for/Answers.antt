-- `bessel::msta2::search_for` meets its contract. Assumes nothing.
use Rattle.bessel.specs.Msta2.{search_for}
use Rattle.bessel.proofs.msta2.search_for.Goals as goal

pub returns-then-ejn-hmp : goal.returns-then-ejn-hmp
unfolding search_for
returns-then-ejn-hmp c = rw (c.first_order-n0.ensures, rw c.envj-ejn.ensures at c.if-ejn-hmp.true)

pub returns : goal.returns
unfolding search_for
returns c = rw (c.envj-ejn.ensures, rw c.envj-ejn.ensures at c.if-ejn-hmp.false)

-- `bessel::sphj::lowest_orders` meets its contract. Assumes nothing.
use Rattle.bessel.specs.Sphj.{lowest}
use Rattle.bessel.proofs.sphj.lowest_orders.Goals as goal

pub returns : goal.returns
unfolding lowest
returns c = rw (c.sine-s.ensures.value, c.cosine-c.ensures.value)

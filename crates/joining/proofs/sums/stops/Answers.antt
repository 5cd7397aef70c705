-- `joining::sums::stops` meets its contract. Assumes nothing.
use borrow.Author.Tests.{lt-ltb, le-ltb}
use Rattle.joining.specs.Sums.{stops}
use Rattle.joining.proofs.sums.stops.Goals as goal

pub returns-then-half-k : goal.returns-then-half-k
unfolding stops
returns-then-half-k c = rw (lt-ltb _ _ c.if-half-k.true) c.settled_by.ensures

pub returns-else-half-k : goal.returns-else-half-k
unfolding stops
returns-else-half-k c = rw (le-ltb _ _ c.if-half-k.false)

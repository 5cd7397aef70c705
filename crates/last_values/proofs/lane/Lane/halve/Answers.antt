-- `last_values::lane::Lane::halve` meets its contract. Assumes nothing.
use borrow.Author.Tests.{lt-ltb, le-ltb}
use Rattle.last_values.proofs.lane.Lane.halve.Goals as goal

pub returns-then-negative-self : goal.returns-then-negative-self
returns-then-negative-self c = rw (lt-ltb _ _ c.if-negative-self.true)

pub returns : goal.returns
returns c = rw (le-ltb _ _ c.if-negative-self.false)

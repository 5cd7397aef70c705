-- `arith::choice::greater` meets its contract: the code's test is the definition's. Assumes nothing.
use Rattle.arith.specs.Choice.{greater}
use Rattle.arith.proofs.choice.greater.Goals as goal

pub returns-then-a-b : goal.returns-then-a-b
unfolding greater
returns-then-a-b c = rw c.if-a-b.true

pub returns-else-a-b : goal.returns-else-a-b
unfolding greater
returns-else-a-b c = rw c.if-a-b.false

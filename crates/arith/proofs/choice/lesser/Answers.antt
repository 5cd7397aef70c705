-- `arith::choice::lesser` meets its contract: the code's test is the definition's. Assumes nothing.
use Rattle.arith.specs.Choice.{lesser}
use Rattle.arith.proofs.choice.lesser.Goals as goal

pub returns-then-b-a : goal.returns-then-b-a
unfolding lesser
returns-then-b-a c = rw c.if-b-a.true

pub returns-else-b-a : goal.returns-else-b-a
unfolding lesser
returns-else-b-a c = rw c.if-b-a.false

-- `bessel::msta1::msta1` meets its contract. Assumes nothing.
use Rattle.bessel.specs.Msta1.{msta1}
use Rattle.bessel.proofs.msta1.msta1.Goals as goal

pub returns-clause-value : goal.returns-clause-value
unfolding msta1
returns-clause-value c = rw (c.searched.ensures.value, c.first_order.ensures, c.abs-a0.ensures)

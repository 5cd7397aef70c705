-- `joining::sums::settled_by` meets its contract: the match is the definition's. Assumes nothing.
use Rattle.joining.specs.Sums.{settled_by}
use Rattle.joining.proofs.sums.settled_by.Goals as goal

pub returns-in-Quotient : goal.returns-in-Quotient
unfolding settled_by
returns-in-Quotient c = rw (c.in-Quotient.is, c.abs.ensures)

pub returns-in-Product : goal.returns-in-Product
unfolding settled_by
returns-in-Product c = rw c.in-Product.is c.settled.ensures

-- `joining::sums::sa0_above` meets its contract. Assumes nothing.
use Rattle.joining.specs.Sums.{sa0_above}
use Rattle.joining.proofs.sums.sa0_above.Goals as goal

pub returns : goal.returns
unfolding sa0_above
returns c = rw c.rise_by-r1.ensures

-- `last_values::lane::Lane::converged` meets its contract. Assumes nothing.
use Rattle.last_values.proofs.lane.Lane.converged.Goals as goal

pub returns : goal.returns
returns c = rw c.abs.ensures

-- `last_values::lane::Lane::start` meets its contract. Assumes nothing.
use Rattle.last_values.proofs.lane.Lane.start.Goals as goal

pub returns : goal.returns
returns c = rw c.opened-start.ensures

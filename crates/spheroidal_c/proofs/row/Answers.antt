-- `spheroidal_c::row` meets its contract. Assumes nothing.
use Rattle.spheroidal_c.proofs.row.Goals as goal

pub returns : goal.returns
returns c = rw c.code.ensures c.row.ensures

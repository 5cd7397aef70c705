-- `spheroidal_c::dlmf_row` meets its contract. Assumes nothing.
use Rattle.spheroidal_c.proofs.dlmf_row.Goals as goal

pub returns : goal.returns
returns c = rw c.code.ensures c.dlmf_row.ensures

-- `spheroidal_c::sheet` meets its contract. Assumes nothing.
use Rattle.spheroidal_c.proofs.sheet.Goals as goal

pub returns : goal.returns
returns c = rw c.code.ensures c.sheet.ensures

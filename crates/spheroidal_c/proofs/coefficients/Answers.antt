-- `spheroidal_c::coefficients` meets its contract. Assumes nothing.
use Rattle.spheroidal_c.proofs.coefficients.Goals as goal

pub returns : goal.returns
returns c = rw c.code.ensures c.coefficients.ensures

-- `spheroidal_c::spheroidal_oblate_radial` meets its contract. Assumes nothing.
use Rattle.spheroidal_c.proofs.spheroidal_oblate_radial.Goals as goal

pub returns : goal.returns
returns c = rw (c.code.ensures, ← c.radial.ensures) c.put_quadruple.ensures

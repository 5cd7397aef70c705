-- `routines_sphy` meets its contract. Assumes nothing.
use Rattle.bessel.specs.Sphj.{blank}
use Rattle.routines_c.proofs.routines_sphy.Goals as goal

pub sphy-requires-clause-sy_value : goal.sphy-requires-clause-sy_value
unfolding blank
sphy-requires-clause-sy_value c = (c.filled.ensures, c.filled-2.ensures)

-- `radial_sums::rmn1::joined` meets its contract. Assumes nothing.
use Rattle.radial_sums.specs.Rmn1.{joined, to_half}
use Rattle.radial_sums.proofs.rmn1.joined.Goals as goal

pub returns : goal.returns
unfolding joined to_half
returns c = rw (c.power.ensures, c.half_of_m.ensures)

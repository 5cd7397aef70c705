-- `sines::reduced` meets its contract. Assumes nothing.
use lib.Ieee.{of_bits, of_int}
use Rattle.sines.specs.Inside.SineValues as SineValues
use Rattle.sines.proofs.reduced.Goals as goal

pub returns : goal.returns
unfolding of_bits of_int SineValues.reduced
returns c = rw c.to_bits.ensures

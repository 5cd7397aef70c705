-- `joining::kmn::sa0_of` meets its contract. Assumes nothing.
use Rattle.joining.specs.Kmn.{sa0_of}
use Rattle.joining.proofs.kmn.sa0_of.Goals as goal

pub returns : goal.returns
unfolding sa0_of
returns c = rw (c.sa0_above.ensures, c.sa0_below.ensures, c.r2_of.ensures, c.parity-ip.ensures.value)

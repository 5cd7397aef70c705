-- `bessel::sphj::tiny` meets its contract. Assumes nothing.
use Rattle.bessel.specs.Sphj.{tiny}
use Rattle.bessel.proofs.sphj.tiny.Goals as goal

pub returns : goal.returns
unfolding tiny
returns c = rw c.abs.ensures

-- `bessel::secant::envj` meets its contract. Assumes nothing.
use Rattle.bessel.specs.Secant.{envj}
use Rattle.bessel.proofs.secant.envj.Goals as goal

pub returns : goal.returns
unfolding envj
returns c = rw (c.log10.ensures.value, c.log10-2.ensures.value)

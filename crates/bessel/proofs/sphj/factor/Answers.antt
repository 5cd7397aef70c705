-- `bessel::sphj::factor` meets its contract. Assumes nothing.
use Rattle.bessel.specs.Sphj.{factor}
use Rattle.bessel.proofs.sphj.factor.Goals as goal

pub returns-then-abs : goal.returns-then-abs
unfolding factor
returns-then-abs c = rw (rw (c.abs.ensures, c.abs-2.ensures) at c.if-abs.true)

pub returns : goal.returns
unfolding factor
returns c = rw (rw (c.abs.ensures, c.abs-2.ensures) at c.if-abs.false)

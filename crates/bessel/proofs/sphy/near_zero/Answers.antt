-- `bessel::sphy::near_zero` meets its contract. Assumes nothing.
use mathlib.Core.Path.{refl}
use Rattle.bessel.specs.Sphy.{near_zero}
use Rattle.bessel.proofs.sphy.near_zero.Goals as goal

pub returns : goal.returns
unfolding near_zero
returns c = refl

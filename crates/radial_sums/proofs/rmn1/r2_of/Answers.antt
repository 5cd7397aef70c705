-- `radial_sums::rmn1::r2_of` meets its contract. The invariant: the first j factors are multiplied. Assumes nothing.
use mathlib.Core.Path.{refl}
use native.Mathlib.Numerals.{add-one}
use Rattle.radial_sums.specs.Rmn1.{r2_of}
use Rattle.radial_sums.proofs.rmn1.r2_of.Goals as goal

pub loop-j-init : goal.loop-j-init
unfolding r2_of
loop-j-init c = refl

pub loop-j-preserved : goal.loop-j-preserved
unfolding r2_of
loop-j-preserved c = rw (add-one c.loop-j.j, c.loop-j.invariant)

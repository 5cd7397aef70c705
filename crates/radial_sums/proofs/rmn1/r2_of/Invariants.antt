-- `radial_sums::rmn1::r2_of` meets its contract. The invariant: the first j factors are multiplied. Assumes nothing.
use mathlib.Core.Path.{◌≡◌}
use Rattle.radial_sums.specs.Rmn1.{r2_of}
use Rattle.radial_sums.proofs.rmn1.r2_of.Given as goal

abbrev pub invariant-loop-j : goal.invariant-loop-j
invariant-loop-j l = l.r2 ≡ r2_of l.c l.j

-- `expansion::sdmn::r4_of` meets its contract. The invariant: the first j factors are multiplied. Assumes nothing.
use mathlib.Core.Path.{◌≡◌}
use Rattle.expansion.specs.Sdmn.{r4_of}
use Rattle.expansion.proofs.sdmn.r4_of.Given as goal

abbrev pub invariant-loop-j : goal.invariant-loop-j
invariant-loop-j l = l.p ≡ r4_of l.j

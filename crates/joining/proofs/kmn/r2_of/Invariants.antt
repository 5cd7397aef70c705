-- `joining::kmn::r2_of` meets its contract. The invariant: r2 has the factors below j. Assumes nothing.
use Prim.Native.Nat.{◌-◌}
use mathlib.Core.Path.{◌≡◌}
use Rattle.joining.specs.Kmn.{r2_of}
use Rattle.joining.proofs.kmn.r2_of.Given as goal

abbrev pub invariant-loop-j : goal.invariant-loop-j
invariant-loop-j l = l.r2 ≡ r2_of l.c (l.j - 1)

-- `radial_sums::rmn1::powers_sum` meets its contract. The invariant: what is left to add gives what the whole gives. Assumes nothing.
use Prim.Native.Nat.{◌-◌}
use mathlib.Core.Path.{◌≡◌}
use Rattle.radial_sums.specs.Rmn1.{powers_on, powers_sum}
use Rattle.radial_sums.proofs.rmn1.powers_sum.Given as goal

abbrev pub invariant-loop-j : goal.invariant-loop-j
invariant-loop-j l = powers_on l.ck (l.nm - l.j) l.j l.sum l.sw ≡ powers_sum l.ck l.nm

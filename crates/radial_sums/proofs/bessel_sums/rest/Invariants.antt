-- `radial_sums::bessel_sums::rest` meets its contract. The invariant: what is left to add gives what the whole gives. Assumes nothing.
use mathlib.Core.Path.{◌≡◌}
use Rattle.radial_sums.specs.BesselSums.{sum_from}
use Rattle.radial_sums.proofs.bessel_sums.rest.Given as goal

abbrev pub invariant-loop-j : goal.invariant-loop-j
invariant-loop-j l = sum_from l.df l.bs l.t.m l.t.ip l.t.half l.t.nm l.j l.r l.sum l.sw ≡ sum_from l.df l.bs l.t.m l.t.ip l.t.half l.t.nm l.j0 l.r0 l.s0 l.s0

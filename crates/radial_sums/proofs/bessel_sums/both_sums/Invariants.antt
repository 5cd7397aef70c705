-- `radial_sums::bessel_sums::both_sums` meets its contract. The invariant: for each sum, what is left to add gives what the whole gives. Assumes nothing.
use mathlib.Core.Path.{◌≡◌}
use Rattle.radial_sums.specs.BesselSums.{sum_from, bessel_sum}
use Rattle.radial_sums.proofs.bessel_sums.both_sums.Given as goal

abbrev pub invariant-loop-j : goal.invariant-loop-j
invariant-loop-j l =
    (sum_from l.df l.sj l.t.m l.t.ip l.t.half l.t.nm l.j l.r l.value l.value0 ≡ bessel_sum l.df l.sj l.t.m l.t.ip l.t.half l.t.nm l.t.r0) × (sum_from l.df l.dj l.t.m l.t.ip l.t.half l.t.nm l.j l.r l.derivative l.derivative0 ≡ bessel_sum l.df l.dj l.t.m l.t.ip l.t.half l.t.nm l.t.r0)

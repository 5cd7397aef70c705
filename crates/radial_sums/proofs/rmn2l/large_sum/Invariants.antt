-- `radial_sums::rmn2l::large_sum` meets its contract. The invariant: what is left to add gives what the whole gives. Assumes nothing.
use Prim.Native.Nat.{◌-◌}
use mathlib.Core.Path.{◌≡◌}
use Rattle.radial_sums.specs.Rmn2l.{large_on, large_sum}
use Rattle.radial_sums.proofs.rmn2l.large_sum.Given as goal

abbrev pub invariant-loop-j : goal.invariant-loop-j
invariant-loop-j l = large_on l.df l.bs l.t.m l.t.ip l.t.half (l.t.nm - l.j) l.j l.r l.sum l.sw l.eps l.np ≡ large_sum l.df l.bs l.t.m l.t.ip l.t.half l.t.nm l.t.r0 l.sw0

-- `angular::aswfa::in_stages` meets its contract. The invariant: the coefficients before the next are in place. Assumes nothing.
use Prim.Native.Nat.{◌-◌, ◌≤◌}
use Rattle.expansion.specs.Inside.Carried.{StandsFor}
use Rattle.angular.proofs.aswfa.in_stages.Given as goal

abbrev pub invariant-loop-count : goal.invariant-loop-count
invariant-loop-count l = (16 ≤ l.count) × (l.count ≤ 212) × StandsFor l.df l.mode.m l.mode.n l.mode.c l.at l.ck

abbrev pub decreases-loop-count : goal.decreases-loop-count
decreases-loop-count l = 212 - l.count

-- `expansion::sckb::PowerSums::fill_rest` meets its contract. The invariant: the coefficients before the next are in place. Assumes nothing.
use Prim.Native.Nat.{◌-◌, ◌≤◌}
use Prim.Native.Nat.{max}
use Rattle.expansion.specs.Inside.Carried.{Stands}
use Rattle.expansion.proofs.sckb.PowerSums.fill_rest.Given as goal

abbrev pub invariant-loop-at : goal.invariant-loop-at
invariant-loop-at l = (l.initial.at.k ≤ l.at.k) × (l.at.k ≤ max l.initial.at.k l.count) × Stands l.df l.self.m l.self.ip l.self.nm l.at l.ck

abbrev pub decreases-loop-at : goal.decreases-loop-at
decreases-loop-at l = l.self.nm - l.at.k

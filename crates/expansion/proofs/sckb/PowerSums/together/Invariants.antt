-- `expansion::sckb::PowerSums::together` meets its contract. The invariant: the four sums end as they do from their terms past the first on. Assumes nothing.
use Prim.Native.Nat.{◌+◌}
use Rattle.expansion.specs.Inside.Four.{EndAlike}
use Rattle.expansion.proofs.sckb.PowerSums.together.Given as goal

abbrev pub invariant-loop-i : goal.invariant-loop-i
invariant-loop-i l = EndAlike l.df l.self.m l.self.ip l.self.nm l.k l.i l.terms (l.k + 2) l.initial.terms

-- `expansion::sckb::PowerSums::sum_terms` meets its contract. The invariant: what is left to add gives what the whole gives. Assumes nothing.
use Prim.Native.Nat.{suc, ◌-◌}
use mathlib.Core.Path.{◌≡◌}
use Rattle.expansion.specs.Sckb.{terms}
use Rattle.expansion.proofs.sckb.PowerSums.sum_terms.Given as goal

abbrev pub invariant-loop-i : goal.invariant-loop-i
invariant-loop-i l = terms l.df l.self.m l.self.ip l.k (suc l.self.nm - l.i) l.i l.r l.sum l.sw ≡ terms l.df l.self.m l.self.ip l.k (suc l.self.nm - l.from) l.from l.fn.t.r l.fn.t.sum l.sw0

-- `expansion::sdmn::Recurrence::sum_past` meets its contract. The invariant: what is left to add gives what the whole gives. Assumes nothing.
use Prim.Native.Nat.{◌-◌, ◌+◌, suc}
use mathlib.Core.Path.{◌≡◌}
use Rattle.arith.specs.Double.{#0}
use Rattle.expansion.specs.Sdmn.{sum_past}
use Rattle.expansion.proofs.sdmn.Recurrence.sum_past.Given as goal

abbrev pub invariant-loop-k : goal.invariant-loop-k
invariant-loop-k l = sum_past l.df l.self.m l.self.ip (suc l.nm - l.k) l.k l.r1 l.su2 l.sw ≡ sum_past l.df l.self.m l.self.ip (l.nm - l.kb) (l.kb + 1) l.first #0 #0

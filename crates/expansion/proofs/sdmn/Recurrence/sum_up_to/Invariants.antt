-- `expansion::sdmn::Recurrence::sum_up_to` meets its contract. The invariant: what is left to add gives what the whole gives. Assumes nothing.
use Prim.Native.Nat.{◌-◌, suc}
use mathlib.Core.Path.{◌≡◌}
use Rattle.expansion.specs.Sdmn.{sum_on, sum_up_to}
use Rattle.expansion.proofs.sdmn.Recurrence.sum_up_to.Given as goal

abbrev pub invariant-loop-k : goal.invariant-loop-k
invariant-loop-k l = sum_on l.df l.self.m l.self.ip (suc l.kb - l.k) l.k l.r1 l.su1 ≡ sum_up_to l.df l.self.m l.self.ip l.kb

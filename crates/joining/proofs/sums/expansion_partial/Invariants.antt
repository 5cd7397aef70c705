-- `joining::sums::expansion_partial` meets its contract. The invariant: the terms that are left give what all give. Assumes nothing.
use Prim.Native.Nat.{suc, ◌-◌}
use mathlib.Core.Path.{◌≡◌}
use Rattle.joining.specs.Sums.{sum_on, expansion_partial}
use Rattle.joining.proofs.sums.expansion_partial.Given as goal

abbrev pub invariant-loop-k : goal.invariant-loop-k
invariant-loop-k l = sum_on l.test l.df l.m l.ip l.half (suc l.nm - l.k) l.k l.r l.sum l.sw ≡ expansion_partial l.test l.df l.m l.ip l.half l.nm l.reg

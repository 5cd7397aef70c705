-- `joining::cbk::RightSides::s1_from` meets its contract. The invariant: the terms that are left give what all give. Assumes nothing.
use Prim.Native.Nat.{◌+◌, ◌-◌}
use mathlib.Core.Path.{◌≡◌}
use Rattle.arith.specs.Double.{#0}
use Rattle.joining.specs.Cbk.{s1_from}
use Rattle.joining.proofs.cbk.RightSides.s1_from.Given as goal

abbrev pub invariant-loop-i : goal.invariant-loop-i
invariant-loop-i l = s1_from l.ck l.self.m l.self.ip l.k (l.self.nm + 1 - l.i) l.i l.s1 l.sw ≡ s1_from l.ck l.self.m l.self.ip l.k (l.self.nm + 1 - l.lo) l.lo #0 l.sw0

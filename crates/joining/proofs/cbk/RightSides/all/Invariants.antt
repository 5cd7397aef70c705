-- `joining::cbk::RightSides::all` meets its contract. The invariant: the places that are left give what all give, and r1 holds the products for k. Assumes nothing.
use Prim.Native.Nat.{◌-◌}
use mathlib.Core.Path.{◌≡◌}
use lib.ListN.{length}
use Rattle.arith.specs.Double.{#0}
use Rattle.expansion.specs.Sums.{blank}
use Rattle.joining.specs.Inside.Kept.{Holds}
use Rattle.joining.specs.Cbk.{first_index, right_sides}
use Rattle.joining.proofs.cbk.RightSides.all.Given as goal

abbrev pub invariant-loop-k : goal.invariant-loop-k
invariant-loop-k l = (length l.r1 ≡ 200) × Holds l.r1 l.self.m l.k (first_index l.self.m l.k) l.self.nm × (right_sides l.ck l.self.m l.self.ip l.self.nm l.qt (l.n2 - l.k) l.k l.sw l.bk ≡ right_sides l.ck l.self.m l.self.ip l.self.nm l.qt l.n2 0 #0 blank)

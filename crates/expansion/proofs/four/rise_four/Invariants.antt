-- `expansion::four::rise_four` meets its contract. The invariant: of each product the first i factors are multiplied. Assumes nothing.
use Prim.Native.Nat.{◌+◌}
use mathlib.Core.Path.{◌≡◌}
use Rattle.expansion.specs.Products.{rising}
use Rattle.expansion.proofs.four.rise_four.Given as goal

abbrev pub invariant-loop-i : goal.invariant-loop-i
invariant-loop-i l = (l.p.a ≡ rising l.r l.a l.i) × (l.p.b ≡ rising l.r (l.a + 2) l.i) × (l.p.c ≡ rising l.r (l.a + 4) l.i) × (l.p.d ≡ rising l.r (l.a + 6) l.i)

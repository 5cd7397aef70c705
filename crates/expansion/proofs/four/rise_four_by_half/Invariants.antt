-- `expansion::four::rise_four_by_half` meets its contract. The invariant: of each product the first i factors are multiplied. Assumes nothing.
use Prim.Native.Nat.{◌+◌}
use mathlib.Core.Path.{◌≡◌}
use Rattle.arith.specs.Double.{#0·5}
use Rattle.expansion.specs.Products.{rising_by}
use Rattle.expansion.proofs.four.rise_four_by_half.Given as goal

abbrev pub invariant-loop-i : goal.invariant-loop-i
invariant-loop-i l = (l.p.a ≡ rising_by l.initial.p.a l.a #0·5 l.i) × (l.p.b ≡ rising_by l.initial.p.b (l.a + 1) #0·5 l.i) × (l.p.c ≡ rising_by l.initial.p.c (l.a + 2) #0·5 l.i) × (l.p.d ≡ rising_by l.initial.p.d (l.a + 3) #0·5 l.i)

-- `expansion::products::rise_by` meets its contract. The invariant: the first i factors are multiplied. Assumes nothing.
use mathlib.Core.Path.{◌≡◌}
use Rattle.expansion.specs.Products.{rising_by}
use Rattle.expansion.proofs.products.rise_by.Given as goal

abbrev pub invariant-loop-i : goal.invariant-loop-i
invariant-loop-i l = l.p ≡ rising_by l.r l.a l.x l.i

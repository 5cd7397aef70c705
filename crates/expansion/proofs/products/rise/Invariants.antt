-- `expansion::products::rise` meets its contract. The invariant: the first i factors are multiplied. Assumes nothing.
use mathlib.Core.Path.{◌≡◌}
use Rattle.expansion.specs.Products.{rising}
use Rattle.expansion.proofs.products.rise.Given as goal

abbrev pub invariant-loop-i : goal.invariant-loop-i
invariant-loop-i l = l.p ≡ rising l.r l.a l.i

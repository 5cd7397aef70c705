-- `expansion::four::rise_four_by_half` meets its contract. Assumes nothing.
use native.Mathlib.Numerals.{add-one}
use Rattle.expansion.specs.Products.{rising_by}
use Rattle.expansion.proofs.four.rise_four_by_half.Goals as goal

pub loop-i-preserved : goal.loop-i-preserved
unfolding rising_by
loop-i-preserved c = let l = c.loop-i in (rw (add-one l.i, l.invariant.0), rw (add-one l.i, l.invariant.1), rw (add-one l.i, l.invariant.2), rw (add-one l.i, l.invariant.3))

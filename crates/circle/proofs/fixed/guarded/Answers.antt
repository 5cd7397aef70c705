-- `fixed::guarded` meets its contract. Assumes nothing.
use mathlib.Core.Path.{refl, sym, subst}
use mathlib.Core.Logic.{inl, inr}
use lib.Dec.{T}
use Rattle.circle.specs.Inside.FixedValues.{guarded}
use Rattle.circle.proofs.fixed.guarded.Goals as goal

pub returns-then-guess-high : goal.returns-then-guess-high
unfolding guarded
returns-then-guess-high c = record { low_or_within = inr (subst T (sym c.if-low-guess.true) tt, subst T (sym c.if-guess-high.true) tt); value = rw (c.if-low-guess.true, c.if-guess-high.true) }

pub returns-else-guess-high : goal.returns-else-guess-high
unfolding guarded
returns-else-guess-high c = record { low_or_within = inl refl; value = rw (c.if-low-guess.true, c.if-guess-high.false) }

pub returns-else-low-guess : goal.returns-else-low-guess
unfolding guarded
returns-else-low-guess c = record { low_or_within = inl refl; value = rw c.if-low-guess.false }

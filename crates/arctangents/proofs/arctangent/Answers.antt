-- `arctangents::arctangent` meets its contract. Assumes nothing.
use mathlib.Core.Path.{◌≡◌, refl, sym, ap, ◌∙◌, subst}
use mathlib.Core.Bool.{Bool, true, false, not, true≢false}
use lib.Dec.{T}
use lib.IntN.{pos}
use lib.Ieee.{Float, inf, fin, le, lt, of_bits, div}
use Rattle.circle.proofs.fixed.Zero.{clash}
use Rattle.arctangents.specs.Inside.ArctangentValues as ArctangentValues
use Rattle.arctangents.proofs.arctangent.Goals as goal

kept : (b : Bool) → b ≡ true → T (not b) → ⊥
kept true e t = t
kept false e t = absurd (true≢false (sym e))

-- the infinity is not below itself, and not below zero
not_below : (x : Float) → x ≡ inf false → lt x (inf false) ≡ true → ⊥
unfolding lt
not_below x e h = true≢false (sym h ∙ ap (λ (z : Float). lt z (inf false)) e)

not_under : (x : Float) → x ≡ inf false → le (fin false 0 (pos 0)) x ≡ false → ⊥
unfolding le
not_under x e h = true≢false (sym (ap (λ (z : Float). le (fin false 0 (pos 0)) z) e) ∙ h)

pub ranged_arctangent-requires : goal.ranged_arctangent-requires
unfolding of_bits div
ranged_arctangent-requires c = record { not_negative = subst T (sym c.if-x.true) tt; finite = subst T (sym c.if-x-2.true) tt }

pub returns-then-x-2 : goal.returns-then-x-2
unfolding ArctangentValues.arctangent of_bits div
returns-then-x-2 c = record { arctangent = record { near = λ h k. c.ranged_arctangent.ensures.arctangent; infinite = λ e. absurd (not_below c.args.x e c.if-x-2.true); outside = λ t. absurd (kept _ c.if-x.true t) }; value = rw (c.if-x.true, c.if-x-2.true, c.ranged_arctangent.ensures.value) }

pub returns-else-x-2 : goal.returns-else-x-2
unfolding ArctangentValues.arctangent of_bits div
returns-else-x-2 c = record { arctangent = record { near = λ h k. absurd (clash _ c.if-x-2.false k); infinite = λ e. refl; outside = λ t. absurd (kept _ c.if-x.true t) }; value = rw (c.if-x.true, c.if-x-2.false) }

pub returns-else-x : goal.returns-else-x
unfolding ArctangentValues.arctangent of_bits div
returns-else-x c = record { arctangent = record { near = λ h k. absurd (clash _ c.if-x.false h); infinite = λ e. absurd (not_under c.args.x e c.if-x.false); outside = λ t. refl }; value = rw c.if-x.false }

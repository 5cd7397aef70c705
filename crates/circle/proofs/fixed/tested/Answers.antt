-- `fixed::tested` meets its contract. Assumes nothing.
use mathlib.Core.Path.{◌≡◌, refl, sym, subst}
use Prim.Native.Nat.{ℕ, zero, suc, ◌+◌, ◌^◌, ◌≤◌}
use native.Mathlib.Omega.{arith}
use borrow.Author.Tests.{eq-eqb, ne_eqb}
use lib.Ieee.{Float, neg}
use Rattle.circle.specs.Inside.Fixed.{Lies}
use Rattle.circle.specs.Inside.Signed.{plus, less}
use Rattle.circle.specs.Inside.FixedValues.{tested}
use Rattle.circle.proofs.fixed.Exactly.{negated}
use Rattle.circle.proofs.fixed.Order.{difference_more, difference_less, opposite, lies_of}
use Rattle.circle.proofs.fixed.tested.Goals as goal

order : (n : ℕ) → n + 0 ≤ n + 1024 + 1024
order n = omega arith

minus : (k n : ℕ) (r : Float) → (k ≡ 0 → ⊥) → Lies r 0 (n + 1024) 1024 n (2 ^ 52) → Lies r (plus k n) (less k n + 1024) (plus k n + 1024) (less k n) (2 ^ 52)
minus zero n r f h = absurd (f refl)
minus (suc k) n r f h = h

order_2 : (n : ℕ) → 0 + n ≤ 1024 + (n + 1024)
order_2 n = omega arith

pub returns-then-sign-eq0 : goal.returns-then-sign-eq0
unfolding tested
returns-then-sign-eq0 c =
    let a = c.args in
    let n = a.n in record {
      lies = subst (λ (k : ℕ). Lies c.guarded.result (plus k n) (less k n + 1024) (plus k n + 1024) (less k n) (2 ^ 52)) (sym c.if-sign-eq0.true)
          (lies_of c.lowered.result c.parts.result c.guarded.result n 1024 (n + 1024) 0 (2 ^ 52) c.lowered.ensures.difference (difference_more c.parts.result (n + 1024) (2 ^ 52) c.parts.ensures.has_value) (order n) c.guarded.ensures.low_or_within);
      value = rw (c.guarded.ensures.value, eq-eqb _ _ c.if-sign-eq0.true, c.parts.ensures.value, c.lowered.ensures.value);
    }

pub returns : goal.returns
unfolding tested
returns c =
    let a = c.args in
    let n = a.n in
    let p = c.parts-2 in
    let l = c.lowered-2 in record {
      lies = minus a.sign n c.guarded-2.result c.if-sign-eq0.false
          (lies_of (neg p.result) (neg l.result) c.guarded-2.result 0 (n + 1024) 1024 n (2 ^ 52) (difference_less (neg p.result) (n + 1024) (2 ^ 52) (negated p.result (n + 1024) (2 ^ 52) p.ensures.has_value)) (opposite l.result n 1024 (2 ^ 52) l.ensures.difference) (order_2 n) c.guarded-2.ensures.low_or_within);
      value = rw (c.guarded-2.ensures.value, ne_eqb _ _ c.if-sign-eq0.false, p.ensures.value, l.ensures.value);
    }

-- `fixed::lowered` meets its contract. Assumes nothing.
use mathlib.Core.Path.{◌≡◌, refl, ap, ◌∙◌}
use Prim.Native.Nat.{ℕ, ◌+◌, ◌-◌, ◌*◌, ◌^◌, ◌≤◌, ◌<◌}
use native.Mathlib.Nat.{add-mul}
use native.Mathlib.Omega.{arith}
use borrow.Author.Tests.{lt-ltb, le-ltb}
use lib.Ieee.{Float, neg}
use lib.Ieee.Positive.{den}
use Rattle.circle.specs.Within.{plus, less}
use Rattle.circle.specs.Inside.Fixed.{IsDifference}
use Rattle.circle.specs.Inside.FixedValues.{lowered}
use Rattle.circle.proofs.fixed.Exactly.{negated}
use Rattle.circle.proofs.fixed.Order.{difference_more, difference_less}
use Rattle.circle.proofs.fixed.lowered.Goals as goal

-- a difference is the same with a number added to both
both_more : (r : Float) (p q k c s t : ℕ) → s ≡ p + k → t ≡ q + k → IsDifference r p q c → IsDifference r s t c
both_more r p q k c s t e f d = record { number = d.number; value = go (plus r * c) (less r * c) (q * den r) (p * den r) (k * den r) (s * den r) (t * den r) (ap (λ (z : ℕ). z * den r) e ∙ add-mul p k (den r)) (ap (λ (z : ℕ). z * den r) f ∙ add-mul q k (den r)) d.value }
  where
    go : (a b q p k s t : ℕ) → s ≡ p + k → t ≡ q + k → a + q ≡ p + b → a + t ≡ s + b
    go a b q p k s t e f h = omega (arith, e, f, h)

pub returns-then-n-lt1024 : goal.returns-then-n-lt1024
unfolding lowered
returns-then-n-lt1024 c =
    let n = c.args.n in
    record { difference = both_more (neg c.parts.result) 0 (1024 - n) n (2 ^ 52) n 1024 (none n) (sums n c.if-n-lt1024.true) (difference_less (neg c.parts.result) (1024 - n) (2 ^ 52) (negated c.parts.result (1024 - n) (2 ^ 52) c.parts.ensures.has_value)); value = rw (lt-ltb _ _ c.if-n-lt1024.true, c.parts.ensures.value) }
  where
    none : (n : ℕ) → n ≡ 0 + n
    none n = omega arith

    sums : (n : ℕ) → n < 1024 → 1024 ≡ 1024 - n + n
    sums n h = omega arith

pub returns : goal.returns
unfolding lowered
returns c =
    let n = c.args.n in
    record { difference = both_more c.parts-2.result (n - 1024) 0 1024 (2 ^ 52) n 1024 (sums n c.if-n-lt1024.false) refl (difference_more c.parts-2.result (n - 1024) (2 ^ 52) c.parts-2.ensures.has_value); value = rw (le-ltb _ _ c.if-n-lt1024.false, c.parts-2.ensures.value) }
  where
    sums : (n : ℕ) → 1024 ≤ n → n ≡ n - 1024 + 1024
    sums n h = omega arith

-- `logarithms::tested_below` meets its contract. Assumes nothing.
use mathlib.Core.Path.{subst}
use Prim.Native.Nat.{ℕ, ◌+◌, ◌-◌, ◌^◌, ◌≤◌}
use native.Mathlib.Omega.{arith}
use lib.Ieee.{neg}
use Rattle.circle.specs.Inside.Fixed.{IsDifference}
use Rattle.logarithms.specs.Inside.LogarithmValues.{tested_below}
use Rattle.circle.proofs.fixed.Exactly.{negated}
use Rattle.circle.proofs.fixed.Order.{difference_less, lies_of}
use Rattle.logarithms.proofs.tested_below.Goals as goal

order : (n : ℕ) → 0 + (n - 1) ≤ 0 + (n + 3)
order n = omega arith

pub returns : goal.returns
unfolding tested_below
returns c =
    let n = c.args.n in
    let l = c.parts in
    let u = c.parts-2 in record {
      lies = lies_of (neg l.result) (neg u.result) c.guarded.result 0 (n + 3) 0 (n - 1) (2 ^ 22)
          (difference_less (neg l.result) (n + 3) (2 ^ 22) (negated l.result (n + 3) (2 ^ 22) l.ensures.has_value))
          (subst (λ (k : ℕ). IsDifference (neg u.result) 0 k (2 ^ 22)) c.saturating_sub.ensures (difference_less (neg u.result) c.saturating_sub.result (2 ^ 22) (negated u.result c.saturating_sub.result (2 ^ 22) u.ensures.has_value)))
          (order n) c.guarded.ensures.low_or_within;
      value = rw (c.guarded.ensures.value, l.ensures.value, u.ensures.value, c.saturating_sub.ensures);
    }

-- `logarithms::tested_above` meets its contract. Assumes nothing.
use Prim.Native.Nat.{ℕ, ◌+◌, ◌^◌, ◌≤◌}
use native.Mathlib.Omega.{arith}
use Rattle.logarithms.specs.Inside.LogarithmValues.{tested_above}
use Rattle.circle.proofs.fixed.Order.{difference_more, lies_of}
use Rattle.logarithms.proofs.tested_above.Goals as goal

order : (n : ℕ) → n + 0 ≤ n + 3 + 0
order n = omega arith

pub returns : goal.returns
unfolding tested_above
returns c =
    let n = c.args.n in
    let l = c.parts in
    let u = c.parts-2 in
    record { lies = lies_of l.result u.result c.guarded.result n 0 (n + 3) 0 (2 ^ 22) (difference_more l.result n (2 ^ 22) l.ensures.has_value) (difference_more u.result (n + 3) (2 ^ 22) u.ensures.has_value) (order n) c.guarded.ensures.low_or_within; value = rw (c.guarded.ensures.value, l.ensures.value, u.ensures.value) }

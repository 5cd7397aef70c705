-- `bessel::msta2::msta2` meets its contract. Assumes nothing.
use Prim.Native.Nat.{ℕ, ◌+◌, ◌<◌}
use mathlib.Core.Path.{◌≡◌}
use native.Mathlib.Omega.{arith}
use borrow.Author.Tests.{ne_eqb}
use Rattle.bessel.specs.Msta2.{ten_more, msta2}
use Rattle.bessel.proofs.msta2.msta2.Goals as goal

ten_on : (k n : ℕ) → 0 < k → k ≡ n → k + 10 ≡ ten_more n
unfolding ten_more
ten_on k n h e = rw (← e, ne_eqb k 0 (omega arith))

pub returns-in_err-order-clause-value : goal.returns-in_err-order-clause-value
unfolding msta2 ten_more
returns-in_err-order-clause-value c = rw (c.from_residual.ensures, ← c.abs-a0.ensures, ← c.search_for-s.ensures, ← c.in_err-order.ensures.value)

pub returns : goal.returns
unfolding msta2
returns c =
    let o = c.in_ok-order.ensures in
    let b = o.some_bounds in
    record { value = rw (← c.abs-a0.ensures, ← c.search_for-s.ensures) (ten_on _ _ b.0 o.value); some_bounds = (omega (arith, b), omega (arith, b)) }

-- `bessel::sphj::searched_orders` meets its contract. Assumes nothing.
use native.Mathlib.Omega.{arith}
use borrow.Author.Tests.{lt-ltb, le-ltb}
use Rattle.bessel.specs.Sphj.{searched_orders}
use Rattle.bessel.proofs.Laws.{most}
use Rattle.bessel.proofs.sphj.searched_orders.Goals as goal

pub returns-then-m-n : goal.returns-then-m-n
unfolding searched_orders
returns-then-m-n c =
    let m = c.msta1.ensures in
    let b = most _ _ _ m.some_bounds in
    record { value = rw (← m.value, ← c.unwrap_or-m.ensures, lt-ltb _ _ c.if-m-n.true); nm_le_n = (omega arith, rw c.unwrap_or-m.ensures (omega (arith, b))) }

pub returns : goal.returns
unfolding searched_orders
returns c =
    let m = c.msta1.ensures in
    let o = c.msta2.ensures in
    let b = most _ _ _ o.some_bounds in
    record { value = rw (← m.value, ← c.unwrap_or-m.ensures, le-ltb _ _ c.if-m-n.false, ← o.value, ← c.unwrap_or-from.ensures); nm_le_n = (omega arith, rw c.unwrap_or-from.ensures b) }

-- `logarithms::log_above_zero` meets its contract. Assumes nothing.
use mathlib.Core.Path.{◌∙◌}
use Prim.Native.Nat.{ℕ, ◌+◌, ◌-◌, ◌≤◌}
use native.Mathlib.Omega.{arith}
use borrow.Author.Tests.{lt-ltb, le-ltb}
use Rattle.logarithms.specs.Inside.LogarithmValues.{log_above_zero}
use Rattle.circle.proofs.fixed.Order.{above_of}
use Rattle.logarithms.proofs.Bridge.{near_under, near_over}
use Rattle.logarithms.proofs.log_above_zero.Goals as goal

last : (n : ℕ) → n ≤ n - 1 + 1
last n = omega arith

pub unpack-s-requires : goal.unpack-s-requires
unpack-s-requires c = above_of c.args.x c.requires.above_zero c.requires.finite

pub returns-then-t-lt9009364992 : goal.returns-then-t-lt9009364992
unfolding log_above_zero
returns-then-t-lt9009364992 c =
    let a = c.before in
    let k = c.binary_log in
    let l = c.ten_log in
    record { near = near_under a.args.x c.tested_below.result a.unpack-s.result.m a.unpack-s.result.e k.result _ l.result a.unpack-s.ensures.unpacked.value a.unpack-s.ensures.unpacked.least k.ensures.binary_log l.ensures.ten_log (l.result - 1) (last l.result) (omega arith) c.tested_below.ensures.lies; value = c.tested_below.ensures.value ∙ rw (c.guess.ensures, l.ensures.value, ← a.unpack-s.ensures.value, ← k.ensures.value, lt-ltb _ _ c.if-t-lt9009364992.true) }

pub returns-else-t-lt9009364992 : goal.returns-else-t-lt9009364992
unfolding log_above_zero
returns-else-t-lt9009364992 c =
    let a = c.before in
    let k = c.binary_log in
    let l = c.ten_log-else-t-lt9009364992 in
    record { near = near_over a.args.x c.tested_above.result a.unpack-s.result.m a.unpack-s.result.e k.result _ l.result a.unpack-s.ensures.unpacked.value a.unpack-s.ensures.unpacked.least k.ensures.binary_log l.ensures.ten_log (omega arith) c.tested_above.ensures.lies; value = c.tested_above.ensures.value ∙ rw (c.guess-else-t-lt9009364992.ensures, l.ensures.value, ← a.unpack-s.ensures.value, ← k.ensures.value, le-ltb _ _ c.if-t-lt9009364992.false) }

-- `arctangents::reaches` meets its contract. Assumes nothing.
use mathlib.Core.Path.{refl, sym}
use mathlib.Core.Bool.{true≢false}
use Prim.Native.Nat.{ℕ, ◌-◌, ◌/◌, ◌^◌, ◌≤◌, ◌<◌}
use native.Mathlib.Nat.{le_of_lt, le_refl}
use native.Mathlib.Omega.{arith}
use borrow.Author.Tests.{ltb-true, ltb-false, leb-true, leb-false, lt-ltb, le-ltb, le-leb, lt-leb}
use Rattle.arctangents.specs.Inside.ArctangentValues as ArctangentValues
use Rattle.arctangents.proofs.Sides.{reach_up, reach_down, unreached_up, unreached_small, unreached_down, unreached_far}
use Rattle.arctangents.proofs.reaches.Goals as goal
use Rattle.arctangents.proofs.reaches.Goals.{Else-d-lt64, Else-d-lt64-2}

p_word : (c : Else-d-lt64) → c.args.p < 2 ^ 64
p_word c = omega arith

q_word : (c : Else-d-lt64-2) → c.args.q < 2 ^ 64
q_word c = omega arith

far : (d : ℕ) → 64 ≤ d → 63 ≤ d
far d h = omega arith

pub returns-then-d-lt64 : goal.returns-then-d-lt64
unfolding ArctangentValues.reaches
returns-then-d-lt64 c =
    let a = c.args in record { sure = λ t. reach_up a.p a.q a.i a.j (a.j - a.i) c.if-i-j.true (le_refl (a.j - a.i)) (ltb-true (a.p / 2 ^ (a.j - a.i)) a.q t); unsure = λ t h. unreached_up a.p a.q a.i a.j (a.j - a.i) c.if-i-j.true refl (ltb-false (a.p / 2 ^ (a.j - a.i)) a.q t); value = rw (le-leb _ _ c.if-i-j.true, lt-ltb _ _ c.if-d-lt64.true) }

pub returns-then-i-j : goal.returns-then-i-j
unfolding ArctangentValues.reaches
returns-then-i-j c =
    let a = c.args in record { sure = λ t. reach_up a.p a.q a.i a.j 63 c.if-i-j.true (far (a.j - a.i) c.if-d-lt64.false) (ltb-true (a.p / 2 ^ 63) a.q t); unsure = λ t h. unreached_small a.p a.q a.i a.j (p_word c) (ltb-false (a.p / 2 ^ 63) a.q t); value = rw (le-leb _ _ c.if-i-j.true, le-ltb _ _ c.if-d-lt64.false) }

pub returns-then-d-lt64-2 : goal.returns-then-d-lt64-2
unfolding ArctangentValues.reaches
returns-then-d-lt64-2 c =
    let a = c.args in record { sure = λ t. reach_down a.p a.q a.i a.j (le_of_lt c.if-i-j.false) (leb-true a.p (a.q / 2 ^ (a.i - a.j)) t); unsure = λ t h. unreached_down a.p a.q a.i a.j (le_of_lt c.if-i-j.false) (leb-false a.p (a.q / 2 ^ (a.i - a.j)) t); value = rw (lt-leb _ _ c.if-i-j.false, lt-ltb _ _ c.if-d-lt64-2.true) }

pub returns : goal.returns
unfolding ArctangentValues.reaches
returns c =
    let a = c.args in record { sure = λ t. absurd (true≢false (sym t)); unsure = λ t h. unreached_far a.p a.q a.i a.j (q_word c) h (le_of_lt c.if-i-j.false) c.if-d-lt64-2.false; value = rw (lt-leb _ _ c.if-i-j.false, le-ltb _ _ c.if-d-lt64-2.false) }

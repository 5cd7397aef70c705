-- `bessel::secant::secant` meets its contract. The invariant: what is left to try gives what the whole gives. Assumes nothing.
use Prim.Native.Nat.{ℕ, suc, ◌-◌, ◌≤◌}
use mathlib.Core.Path.{◌≡◌, sym, ◌∙◌}
use native.Mathlib.Omega.{arith}
use native.Mathlib.Numerals.{add-one}
use borrow.Author.Tests.{eq-eqb, ne_eqb}
use Rattle.bessel.specs.Secant.{secant}
use Rattle.bessel.proofs.Laws.{may, may_not, not_tried, again, onward, tried_bounds}
use Rattle.bessel.proofs.secant.secant.Goals as goal

pub returns-in_err-nn-clause-value : goal.returns-in_err-nn-clause-value
returns-in_err-nn-clause-value c =
    let l = c.loop in
    let h : 20 - l.counter ≡ suc (19 - l.counter) = omega arith in
    rw c.from_residual.ensures (not_tried _ _ (19 - l.counter) l.n0 l.f0 l.n1 l.f1 _ c.meeting.ensures (may_not _ _ c.tried.ensures c.in_err-nn.was) ∙ rw h at l.invariant.2)

pub returns-then-met_again : goal.returns-then-met_again
returns-then-met_again c =
    let l = c.loop in
    let h : 20 - l.counter ≡ suc (19 - l.counter) = omega arith in
    let t = may _ _ _ c.tried.ensures c.in_ok-nn.was in
    let e = sym t.1 ∙ c.meeting.ensures in
    record { value = again _ _ (19 - l.counter) l.n0 l.f0 l.n1 l.f1 _ e (rw t.1 at t.0) (eq-eqb _ _ c.if-met_again.true) ∙ rw h at l.invariant.2; some_bounds = tried_bounds _ (rw t.1 at t.0) }

pub loop-preserved : goal.loop-preserved
loop-preserved c =
    let l = c.loop in
    let h : 20 - l.counter ≡ suc (19 - l.counter) = omega arith in
    let h' : 20 - suc l.counter ≡ 19 - l.counter = omega arith in
    let t = may _ _ _ c.tried.ensures c.in_ok-nn.was in
    let e = sym t.1 ∙ c.meeting.ensures in
    let b = tried_bounds _ (rw t.1 at t.0) in
    (b.0, b.1, rw (add-one l.counter, h', c.envj-in-loop.ensures) (onward _ _ (19 - l.counter) l.n0 l.f0 l.n1 l.f1 _ e (rw t.1 at t.0) (ne_eqb _ _ c.if-met_again.false) ∙ rw h at l.invariant.2))

none_left : (n : ℕ) → 20 ≤ n → 20 - n ≡ 0
none_left n h = omega arith

pub returns : goal.returns
unfolding secant
returns c = let l = c.loop in record { value = rw (none_left _ c.loop-test.false) at l.invariant.2; some_bounds = (l.invariant.0, l.invariant.1) }

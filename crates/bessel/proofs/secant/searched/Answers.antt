-- `bessel::secant::searched` meets its contract. Assumes nothing.
use mathlib.Core.Path.{◌∙◌}
use native.Mathlib.Omega.{arith}
use Rattle.bessel.proofs.Laws.{may, may_not, first_refused, second_refused, both_tried, tried_bounds}
use Rattle.bessel.proofs.secant.searched.Goals as goal

pub returns-in_err-first-clause-value : goal.returns-in_err-first-clause-value
returns-in_err-first-clause-value c = rw c.from_residual.ensures (first_refused _ _ _ (may_not _ _ c.tried.ensures c.in_err-first.was))

pub overflow_add-first : goal.overflow_add-first
overflow_add-first c =
    let t = may _ _ _ c.tried.ensures c.in_ok-first.was in
    let b = tried_bounds _ (rw t.1 at t.0) in
    omega (arith, b)

pub returns-in_err-second-clause-value : goal.returns-in_err-second-clause-value
returns-in_err-second-clause-value c =
    let t = may _ _ _ c.tried.ensures c.in_ok-first.was in
    rw (c.from_residual-in_err-second.ensures, t.1) (second_refused _ _ _ (rw t.1 at t.0) (may_not _ _ c.tried-2.ensures c.in_err-second.was))

pub secant-requires : goal.secant-requires
secant-requires c = let t = may _ _ _ c.tried-2.ensures c.in_ok-second.was in tried_bounds _ (rw t.1 at t.0)

pub returns : goal.returns
returns c =
    let t = may _ _ _ c.tried.ensures c.in_ok-first.was in
    let t' = may _ _ _ c.tried-2.ensures c.in_ok-second.was in
    record {
      value = rw (← t'.1, ← t.1) at c.secant.ensures.value ∙ both_tried _ _ _ t.0 (rw (← t.1) at t'.0);
      some_bounds = c.secant.ensures.some_bounds;
    }

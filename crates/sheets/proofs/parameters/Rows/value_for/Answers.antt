-- `sheets::parameters::Rows::value_for` meets its contract. Assumes nothing.
use mathlib.Core.Path.{sym}
use native.Mathlib.Omega.{arith}
use Rattle.std.proofs.lemmas.Result.{err_from_is_err_and}
use Rattle.arith.specs.Double.{#0}
use Rattle.requests.proofs.Laws.{ranges}
use Rattle.sheets.specs.Sheet.{mode_with}
use Rattle.sheets.proofs.Laws as laws
use Rattle.sheets.proofs.parameters.Rows.value_for.Goals as goal

pub overflow_sub-result : goal.overflow_sub-result
overflow_sub-result c = let a = c.args.self in let r = ranges (mode_with a.m a.n #0) a.in_range in omega arith

pub bounds-values-self : goal.bounds-values-self
bounds-values-self c = let a = c.args.self in let r = ranges (mode_with a.m a.n #0) a.in_range in omega arith

pub returns-in_err-row : goal.returns-in_err-row
returns-in_err-row c =
    let a = c.args.self in
    let p = err_from_is_err_and c.from_residual.result c.from_residual.ensures.1 in
    rw (p.1, p.2) (record { refused = (laws.row_is a.kind a.m a.n a.allowance c.args.c _ _ _ _ _ _ c.filled-values.ensures c.filled-steps.ensures c.filled-lowers.ensures c.filled-uppers.ensures c.filled-substituted.ensures (rw c.mode-mode.ensures at c.in_err-row.ensures)).0; given = tt })

pub returns : goal.returns
returns c =
    let a = c.args.self in
    let is = laws.row_is a.kind a.m a.n a.allowance c.args.c _ _ _ _ _ _ c.filled-values.ensures c.filled-steps.ensures c.filled-lowers.ensures c.filled-uppers.ensures c.filled-substituted.ensures (rw c.mode-mode.ensures at c.in_ok-row.ensures) in
    record { refused = is.0; given = is.1 }

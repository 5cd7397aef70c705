-- `sheets::parameters::Rows::one_row` meets its contract. Assumes nothing.
use mathlib.Core.Path.{sym}
use Rattle.std.proofs.lemmas.Result.{err_from_is_err_and}
use Rattle.sheets.proofs.Rows.{rows_one, rows_one_refused}
use Rattle.sheets.proofs.parameters.Rows.one_row.Goals as goal

pub returns-in_err-value : goal.returns-in_err-value
returns-in_err-value c = let p = err_from_is_err_and c.from_residual.result c.from_residual.ensures.1 in rw (p.1, p.2) (rows_one_refused _ _ _ _ _ _ _ c.requires c.in_err-value.ensures.refused)

pub returns : goal.returns
returns c = rows_one _ _ _ _ _ _ _ c.requires (sym c.in_ok-value.ensures.refused) c.in_ok-value.ensures.given

-- `sheets::parameters::Rows::four_rows` meets its contract. Assumes nothing.
use Prim.Native.Nat.{◌+◌}
use mathlib.Core.Path.{sym, ap, ◌∙◌}
use native.Mathlib.Omega.{arith}
use Rattle.arith.specs.Double.{at}
use Rattle.arith.proofs.Flags.{not_taken}
use Rattle.std.proofs.lemmas.Result.{err_from_is_err_and}
use Rattle.std.specs.Prelude.{is_ok}
use Rattle.requests.proofs.Laws.{accepted}
use Rattle.sheets.specs.Sheet.{mode_with}
use Rattle.sheets.proofs.Rows.{entries_few, rows_four, rows_four_refused}
use Rattle.sheets.proofs.parameters.Rows.four_rows.Goals as goal

pub last_values-last-requires : goal.last_values-last-requires
last_values-last-requires c =
    let a = c.args in
    let pre = c.requires in
    let r = accepted _ (pre.bisected 0 (omega arith)).0 in record { m_bound = (omega arith, r.rising, omega arith); by_index = λ q l. let x = mode_with a.self.m a.self.n (at a.cs.now (a.i + q)) in let t = accepted x (pre.bisected q l).0 in let f = entries_few x (pre.bisected q l).2 in let e = c.four_entries-entries.ensures q l in (omega arith, omega arith) }

pub returns-in_err-values : goal.returns-in_err-values
returns-in_err-values c =
    let pre = c.requires in
    let p = err_from_is_err_and c.from_residual.result c.from_residual.ensures.1 in
    rw (p.1, p.2)
    (rows_four_refused _ _ _ _ _ _ pre.i_in_bounds.0 pre.bisected c.four_cs-squares.result c.four_entries-entries.result c.four_cs-squares.ensures c.four_entries-entries.ensures (λ none. not_taken (sym (ap is_ok c.in_err-values.was) ∙ c.last_values-last.ensures.by_index_2 none)))

pub returns : goal.returns
returns c =
    let pre = c.requires in
    rows_four _ _ _ _ _ _ pre.i_in_bounds.0 pre.bisected c.four_cs-squares.result c.four_entries-entries.result c.four_cs-squares.ensures c.four_entries-entries.ensures _ (rw c.in_ok-values.was at c.last_values-last.ensures.given)

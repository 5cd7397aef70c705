-- `sheets::parameters::Rows::rows_from` meets its contract. Assumes nothing.
use Rattle.sheets.proofs.parameters.Rows.rows_from.Goals as goal

pub four_rows-requires : goal.four_rows-requires
four_rows-requires c =
    let e = c.four_bisected.ensures in
    record { i_in_bounds = (e.i_in_bounds c.if-four_bisected.true, c.requires.1); bisected = e.bisected c.if-four_bisected.true }

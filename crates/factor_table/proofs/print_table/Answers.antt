-- `factor_table::print_table` meets its contract. Assumes nothing.
use mathlib.Core.Path.{sym}
use native.Mathlib.Omega.{arith}
use lib.Seq.{length-take-le}
use Rattle.records.proofs.Laws.{put_length}
use Rattle.factor_table.proofs.print_table.Goals as goal

pub slice_bounds-write_all-end-2 : goal.slice_bounds-write_all-end-2
slice_bounds-write_all-end-2 c =
    let call = c.put_table-used in
    sym (length-take-le call.result _ (omega (arith, put_length call.ensures, call.ensures.fits)))

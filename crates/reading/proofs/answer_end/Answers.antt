-- `reading::answer_end` meets its contract. Assumes nothing.
use mathlib.Core.Path.{sym}
use native.Mathlib.Omega.{arith}
use lib.Seq.{length-take-le}
use Rattle.stream.proofs.Laws.{put_length}
use Rattle.reading.proofs.answer_end.Goals as goal

pub slice_bounds-write_all-end-2 : goal.slice_bounds-write_all-end-2
slice_bounds-write_all-end-2 g c =
    let call = c.answer_end-used in
    sym (length-take-le call.result _ (omega (arith, put_length call.ensures, call.ensures.fits)))

pub returns : goal.returns
returns g c = put_length c.answer_end-used.ensures

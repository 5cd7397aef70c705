-- `reading::take_reading` meets its contract. Assumes nothing.
use Prim.Native.Nat.{◌+◌}
use mathlib.Core.Path.{refl, sym, ◌∙◌}
use native.Mathlib.Omega.{arith}
use lib.Seq.{length-take-le}
use Rattle.reading.proofs.Readings as readings
use Rattle.reading.proofs.take_reading.Goals as goal

pub read_behind-got-requires : goal.read_behind-got-requires
read_behind-got-requires g c = omega (arith, c.requires.keeps.short)

pub slice_bounds-answer_end-end-then-got-eq0 : goal.slice_bounds-answer_end-end-then-got-eq0
slice_bounds-answer_end-end-then-got-eq0 g c = sym (length-take-le _ _ (omega (arith, c.read_behind-got.ensures.buffer_len_unchanged.0, c.requires.keeps.short)))

pub returns-then-got-eq0 : goal.returns-then-got-eq0
returns-then-got-eq0 g c =
    let k = c.requires.keeps in
    let read = c.read_behind-got.ensures in
    record { buffer_len_unchanged = (read.buffer_len_unchanged.0, c.answer_end-written.ensures); bytes_value = omega (arith, c.if-got-eq0.true); keeps_2 = λ g. readings.ended k _ read.buffer_len_unchanged.1 _ _ }

pub slice_bounds-answer_arrived-end-2 : goal.slice_bounds-answer_arrived-end-2
slice_bounds-answer_arrived-end-2 g c = sym (length-take-le _ _ (omega (arith, c.read_behind-got.ensures.result_in_bounds, c.read_behind-got.ensures.buffer_len_unchanged.0)))

pub answer_arrived-arrived-requires : goal.answer_arrived-arrived-requires
answer_arrived-arrived-requires g c =
    let read = c.read_behind-got in
    let n = length-take-le (c.args.before.held + read.result) read.new.buffer (omega (arith, read.ensures.result_in_bounds, read.ensures.buffer_len_unchanged.0)) in
    (omega arith, omega (arith, n, read.ensures.result_in_bounds), omega (arith, c.requires.keeps.counted))

pub keep-requires : goal.keep-requires
keep-requires g c =
    let read = c.read_behind-got in
    let n = length-take-le (c.args.before.held + read.result) read.new.buffer (omega (arith, read.ensures.result_in_bounds, read.ensures.buffer_len_unchanged.0)) in
    (omega (arith, n, c.answer_arrived-arrived.ensures.answers.within), omega (arith, read.ensures.result_in_bounds, read.ensures.buffer_len_unchanged.0))

pub overflow_sub-result : goal.overflow_sub-result
overflow_sub-result g c =
    let read = c.read_behind-got in
    let n = length-take-le (c.args.before.held + read.result) read.new.buffer (omega (arith, read.ensures.result_in_bounds, read.ensures.buffer_len_unchanged.0)) in
    omega (arith, n, c.answer_arrived-arrived.ensures.answers.within)

pub returns : goal.returns
returns g c =
    let read = c.read_behind-got in
    let arrived = c.answer_arrived-arrived in
    let keep = c.keep in
    record { buffer_len_unchanged = (keep.ensures.0 ∙ read.ensures.buffer_len_unchanged.0, arrived.ensures.out_len_unchanged); bytes_value = refl; keeps_2 = λ g. readings.on c.requires.keeps read.new.buffer read.ensures.buffer_len_unchanged.1 read.result (omega (arith, read.ensures.result_in_bounds, read.ensures.buffer_len_unchanged.0)) arrived.ensures.answers keep.new.buffer keep.ensures.1 g }

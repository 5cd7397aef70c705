-- `reading::answer_arrived` meets its contract: the calls are those of the definition, and each comes further. Assumes nothing.
use mathlib.Core.Path.{refl, sym, ◌∙◌}
use native.Mathlib.Omega.{arith}
use Rattle.std.proofs.Common.{rules}
use lib.Seq.{length-take-le}
use Rattle.stream.proofs.Laws.{put_length}
use Rattle.reading.proofs.Calls as calls
use Rattle.reading.proofs.answer_arrived.Goals as goal

pub loop-state-init : goal.loop-state-init
loop-state-init g c = (refl, calls.start _ _ _)

pub answer_some-progress-requires : goal.answer_some-progress-requires
answer_some-progress-requires g c = let s = c.loop-state.invariant.1 in omega (arith, s.within, s.counted)

pub slice_bounds-write_all-end-in-loop-state : goal.slice_bounds-write_all-end-in-loop-state
slice_bounds-write_all-end-in-loop-state g c =
    let call = c.answer_some-progress in
    sym (length-take-le call.result.used _ (omega (arith, put_length call.ensures.put, call.ensures.put.fits)))

pub returns-then-ne : goal.returns-then-ne
returns-then-ne g c =
    let l = c.loop-state in
    let call = c.answer_some-progress in
    record { out_len_unchanged = put_length call.ensures.put ∙ l.invariant.0; answers = calls.stopped l.invariant.1 l.invariant.0 call.ensures.value _ _ c.state_of-state.ensures (search rules) }

pub returns-then-out-used-ge-LONGEST : goal.returns-then-out-used-ge-LONGEST
returns-then-out-used-ge-LONGEST g c =
    let l = c.loop-state in
    let call = c.answer_some-progress in
    let room = c.if-out-used-ge-LONGEST.true in
    record { out_len_unchanged = put_length call.ensures.put ∙ l.invariant.0; answers = calls.through l.invariant.1 l.invariant.0 call.ensures.value _ _ c.state_of-state.ensures (search rules) (omega (arith, put_length call.ensures.put, call.ensures.put.fits, l.invariant.0)) }

pub loop-state-smaller : goal.loop-state-smaller
loop-state-smaller g c =
    let l = c.loop-state in
    let call = c.answer_some-progress in
    let going = calls.going_is _ _ c.state_of-state.ensures (search rules) in
    let on = calls.on l.invariant.1 l.invariant.0 call.ensures.value (omega arith) going (omega (arith, put_length call.ensures.put, l.invariant.0)) in
    let later = calls.again l.invariant.1 l.invariant.0 call.ensures.value (omega arith) going (omega (arith, put_length call.ensures.put, l.invariant.0)) in
    omega (arith, on, later.within)

pub loop-state-preserved : goal.loop-state-preserved
loop-state-preserved g c =
    let l = c.loop-state in
    let call = c.answer_some-progress in
    let going = calls.going_is _ _ c.state_of-state.ensures (search rules) in
    (put_length call.ensures.put ∙ l.invariant.0, calls.again l.invariant.1 l.invariant.0 call.ensures.value (omega arith) going (omega (arith, put_length call.ensures.put, l.invariant.0)))

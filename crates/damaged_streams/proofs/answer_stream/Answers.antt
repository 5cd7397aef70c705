-- `damaged_streams::answer_stream` meets its contract: it reads and writes inside its buffers, and ends. Assumes nothing.
use Prim.Native.Nat.{ℕ, ◌+◌, ◌≤◌}
use mathlib.Core.Path.{◌≡◌, refl, sym, ◌∙◌}
use mathlib.Core.List.{List}
use native.Mathlib.Omega.{arith}
use lib.ListN.{length, take}
use lib.Seq.{length-take-le}
use Rattle.stream.specs.declared.stream.Progress.{Progress}
use Rattle.stream.specs.Inside.Calls.{answered, progress}
use Rattle.stream.proofs.Laws.{put_length}
use Rattle.stream.proofs.StreamLaws.{moves}
use Rattle.damaged_streams.proofs.answer_stream.Goals as goal
use Rattle.damaged_streams.proofs.answer_stream.Invariants.{Stays}

stays_on : (input : List ℕ) (room : ℕ) {at arrived index : ℕ} (r : Progress) → arrived + 1 ≤ length input → Stays at arrived index → r ≡ progress (answered (take (arrived + 1) input) room at index) → Stays r.at (arrived + 1) r.index
stays_on input room {at} {arrived} {index} r fits s e =
    let m = moves (take (arrived + 1) input) room at index r e in
    let n = length-take-le (arrived + 1) input fits in
    let w = m.within (omega (arith, s.within)) in
    record { within = omega arith; counted = omega (arith, m.fewest, m.most, s.counted) }

pub loop-i-init : goal.loop-i-init
loop-i-init c = (refl, record { within = omega arith; counted = omega arith })

pub slice_bounds-answer_some-end : goal.slice_bounds-answer_some-end
slice_bounds-answer_some-end c = sym (length-take-le _ _ (omega arith))

pub answer_some-progress-requires : goal.answer_some-progress-requires
answer_some-progress-requires c =
    let l = c.loop-i in
    let n = length-take-le (l.i + 1) c.args.input.now (omega arith) in
    omega (arith, n, l.invariant.1.within, l.invariant.1.counted)

pub slice_bounds-write_all-end-in-loop-i : goal.slice_bounds-write_all-end-in-loop-i
slice_bounds-write_all-end-in-loop-i c =
    let call = c.answer_some-progress in
    sym (length-take-le call.result.used _ (omega (arith, put_length call.ensures.put, call.ensures.put.fits)))

pub shape_of-out-then-progress : goal.shape_of-out-then-progress
shape_of-out-then-progress c = put_length c.answer_some-progress.ensures.put ∙ c.loop-i.invariant.0

pub returns-then-progress : goal.returns-then-progress
returns-then-progress c = put_length c.answer_some-progress.ensures.put ∙ c.loop-i.invariant.0

pub loop-i-preserved : goal.loop-i-preserved
loop-i-preserved c =
    let l = c.loop-i in
    let call = c.answer_some-progress in
    (put_length call.ensures.put ∙ l.invariant.0, stays_on c.args.input.now _ call.result (omega arith) l.invariant.1 call.ensures.value)

pub answer_end-used-requires : goal.answer_end-used-requires
answer_end-used-requires c = omega (arith, c.loop-i.invariant.0)

pub slice_bounds-write_all-end-3 : goal.slice_bounds-write_all-end-3
slice_bounds-write_all-end-3 c =
    let call = c.answer_end-used in
    sym (length-take-le call.result _ (omega (arith, put_length call.ensures, call.ensures.fits)))

pub shape_of-out : goal.shape_of-out
shape_of-out c = put_length c.answer_end-used.ensures ∙ c.loop-i.invariant.0

pub returns : goal.returns
returns c = put_length c.answer_end-used.ensures ∙ c.loop-i.invariant.0

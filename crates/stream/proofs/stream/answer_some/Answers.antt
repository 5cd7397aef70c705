-- `stream::stream::answer_some` meets its contract. The invariant: what is put so far, and what is left to do, give what the whole call gives. Assumes nothing.
use mathlib.Core.Path.{refl, sym, ◌∙◌}
use mathlib.Core.Logic.{inl, inr, ⊎_elim}
use native.Mathlib.Omega.{arith}
use Rattle.records.proofs.Laws.{put_length}
use Rattle.stream.proofs.Nexts.{whole_told}
use Rattle.stream.proofs.Reached as reached
use Rattle.stream.proofs.stream.answer_some.Goals as goal

pub loop-out-init : goal.loop-out-init
loop-out-init c = (refl, omega arith, omega arith, reached.start _ _ _ _)

pub overflow_sub-out : goal.overflow_sub-out
overflow_sub-out c = let l = c.loop-out in omega (arith, l.invariant.0, l.invariant.1)

pub overflow_add-index : goal.overflow_add-index
overflow_add-index c =
    let e = sym c.next_record-next.ensures ∙ c.in-Whole.is in
    let w = whole_told _ _ e in
    omega (arith, w.fits, w.least)

pub overflow_add-at : goal.overflow_add-at
overflow_add-at c =
    let e = sym c.next_record-next.ensures ∙ c.in-Whole.is in
    let w = whole_told _ _ e in
    omega (arith, w.fits)

pub loop-out-smaller : goal.loop-out-smaller
loop-out-smaller c =
    let e = sym c.next_record-next.ensures ∙ c.in-Whole.is in
    let w = whole_told _ _ e in
    omega (arith, w.fits, w.least)

pub loop-out-preserved : goal.loop-out-preserved
loop-out-preserved c =
    let l = c.loop-out in
    let e = sym c.next_record-next.ensures ∙ c.in-Whole.is in
    let w = whole_told _ _ e in
    let p = c.respond-used.ensures in
    let s = reached.answered_one l.invariant.3 c.loop-out-test.true _ _ e p.put in
    (put_length s.put, omega (arith, s.put.fits), omega (arith, w.least), s)

pub returns-in-Unmarked : goal.returns-in-Unmarked
returns-in-Unmarked c =
    let l = c.loop-out in
    let e = sym c.next_record-next.ensures ∙ c.in-Unmarked.is in
    let d = reached.unmarked l.invariant.3 c.loop-out-test.true e (rw c.number.ensures at c.r_line-end.ensures.put) in
    record { put = d.put; value = d.is }

pub returns-in-Cut : goal.returns-in-Cut
returns-in-Cut c =
    let l = c.loop-out in
    let roomy = c.loop-out-test.true in
    let next = sym c.next_record-next.ensures in
    let d = reached.through l.invariant.3 roomy (⊎_elim (λ e. inr (next ∙ e)) (λ e. inl (next ∙ e)) c.in-Cut.is) in
    record { put = d.put; value = d.is }

pub returns : goal.returns
returns c = let d = reached.full c.loop-out.invariant.3 c.loop-out-test.false in record { put = d.put; value = d.is }

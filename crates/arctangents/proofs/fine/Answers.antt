-- `arctangents::fine` meets its contract. Assumes nothing.
use lib.Dec.{T}
use borrow.Author.Tests.{lt-ltb, le-ltb}
use lib.Ieee.Positive.{positive, num, den, den_pos}
use Rattle.arctangents.specs.Inside.ArctangentValues as ArctangentValues
use Rattle.arctangents.proofs.Range.{two_positive, below_two, fine_none, fine_upto, fine_some, fine_shifted}
use Rattle.arctangents.proofs.fine.Goals as goal
use Rattle.arctangents.proofs.fine.Goals.{Start}

above : (c : Start) → T (positive c.args.g)
above c = two_positive c.args.g c.requires.above_zero c.requires.below_two

pub unpack-m-requires : goal.unpack-m-requires
unpack-m-requires c = above c

pub returns-then-e-lt2033 : goal.returns-then-e-lt2033
unfolding ArctangentValues.fine
returns-then-e-lt2033 c =
    let x = c.args.g in
    let r = c.unpack-m in
    record { fine = fine_none (num x) (den x) r.result.m r.result.e (den_pos x) (below_two x c.requires.above_zero c.requires.below_two) r.ensures.unpacked.least r.ensures.unpacked.most c.unpack-m.ensures.unpacked.value c.if-e-lt2033.true; value = rw (← r.ensures.value, lt-ltb _ _ c.if-e-lt2033.true) }

pub overflow_sub-result : goal.overflow_sub-result
overflow_sub-result c =
    let x = c.args.g in
    let r = c.unpack-m in
    fine_upto (num x) (den x) r.result.m r.result.e (den_pos x) (below_two x c.requires.above_zero c.requires.below_two) r.ensures.unpacked.least r.ensures.unpacked.most c.unpack-m.ensures.unpacked.value

pub returns : goal.returns
unfolding ArctangentValues.fine
returns c =
    let x = c.args.g in
    let r = c.unpack-m in
    record { fine = fine_some (num x) (den x) r.result.m r.result.e (den_pos x) (below_two x c.requires.above_zero c.requires.below_two) r.ensures.unpacked.least r.ensures.unpacked.most c.unpack-m.ensures.unpacked.value; value = rw (← r.ensures.value, le-ltb _ _ c.if-e-lt2033.false, fine_shifted r.result.m r.ensures.unpacked.most) }

-- `small::Small::split` meets its contract. Assumes nothing.
use Prim.Native.Nat.{◌-◌, ◌*◌, ◌^◌, ◌%◌, ◌≤◌}
use lib.Dec.{T}
use lib.Ieee.Positive.{num, den, den_pos, positive}
use Rattle.sines.specs.Inside.Small.{IsSplit}
use Rattle.sines.specs.Inside.SmallValues as SmallValues
use Rattle.sines.proofs.Range.{low_positive, over_zero, below_one, not_tiny, shifted, split_of}
use Rattle.sines.proofs.small.Small.split.Goals as goal
use Rattle.sines.proofs.small.Small.split.Goals.{After-unpack-s, Start}

above : (c : Start) → T (positive c.args.self.x)
above c = low_positive c.args.self.x c.args.self.least c.args.self.below_one

facts : (c : After-unpack-s) → (c.unpack-s.result.e ≤ 2095) × IsSplit (num c.args.self.x) (den c.args.self.x) (c.unpack-s.result.m * 2 ^ 10 % 2 ^ 64) (2095 - c.unpack-s.result.e)
facts c =
    let x = c.args.self.x in
    let m = c.unpack-s.result.m in
    let e = c.unpack-s.result.e in
    split_of (num x) (den x) m e (den_pos x) (below_one x (over_zero x (above c.before)) c.args.self.below_one) (not_tiny x c.args.self.least (above c.before)) c.unpack-s.ensures.unpacked.least c.unpack-s.ensures.unpacked.most c.unpack-s.ensures.unpacked.value

pub unpack-s-requires : goal.unpack-s-requires
unpack-s-requires c = above c

pub overflow_sub-result : goal.overflow_sub-result
overflow_sub-result c = (facts c.before.before).0

pub invariant_of-result : goal.invariant_of-result
invariant_of-result c = record { shift = (facts c.before.before).1.shift }

pub returns : goal.returns
unfolding SmallValues.split
returns c = record { split = (facts c.before.before.before).1; value = rw (← c.unpack-s.ensures.value, shifted c.unpack-s.result.m c.unpack-s.ensures.unpacked.most) }

-- `sines::Far::scaled` meets its contract. Assumes nothing.
use mathlib.Core.Path.{ap, ◌∙◌}
use Prim.Native.Nat.{ℕ, ◌-◌, ◌*◌, ◌^◌}
use native.Mathlib.Nat.{le_trans, le_of_eq}
use lib.Dec.{T}
use lib.Ieee.Positive.{num, den, den_pos, positive}
use Rattle.sines.specs.Inside.SineValues as SineValues
use Rattle.sines.proofs.Range.{Scaled, positive_of, at_least, at_most, scaled_of, fits_of, shift_fits}
use Rattle.sines.proofs.Far.scaled.Goals as goal
use Rattle.sines.proofs.Far.scaled.Goals.{After-unpack-s, Start}

above : (c : Start) → T (positive c.args.self.x)
above c = positive_of c.args.self.x c.args.self.least c.args.self.most

facts : (c : After-unpack-s) → Scaled (num c.args.self.x) (den c.args.self.x) c.unpack-s.result.m c.unpack-s.result.e
facts c =
    let x = c.args.self.x in
    let m = c.unpack-s.result.m in
    let e = c.unpack-s.result.e in
    scaled_of (num x) (den x) m e (den_pos x) (at_least x c.args.self.least (above c.before)) (at_most x c.args.self.most (above c.before)) c.unpack-s.ensures.unpacked.least c.unpack-s.ensures.unpacked.most c.unpack-s.ensures.unpacked.value

pub unpack-s-requires : goal.unpack-s-requires
unpack-s-requires c = above c

pub overflow_sub-result : goal.overflow_sub-result
overflow_sub-result c = (facts c.before).from

pub overflow_shl-result : goal.overflow_shl-result
overflow_shl-result c = shift_fits c.unpack-s.result.e (facts c.before.before).upto

pub returns : goal.returns
unfolding SineValues.scaled
returns c =
    let f = facts c.before.before in
    let same = fits_of (c.unpack-s.result.m * 2 ^ (c.unpack-s.result.e - 2096)) f.most in
    record { exact = (le_trans (le_of_eq same) f.most, ap (λ (z : ℕ). z * den c.args.self.x) same ∙ f.value); value = same ∙ rw (← c.unpack-s.ensures.value) }

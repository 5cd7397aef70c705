-- `small::odd_sum` meets its contract. Assumes nothing.
use mathlib.Core.Path.{refl}
use Prim.Native.Nat.{◌*◌, ◌^◌}
use native.Mathlib.Nat.{zero-lt-suc}
use lib.Dec.{leb→le}
use Rattle.circle.specs.Inside.Horner.{Alternating}
use Rattle.sines.specs.Inside.SmallValues as SmallValues
use Rattle.circle.proofs.Alternate.{last, step}
use Rattle.sines.proofs.small.odd_sum.Goals as goal
use Rattle.sines.proofs.small.odd_sum.Goals.{After-horner, After-horner-g11, After-horner-g13, After-horner-g15, After-horner-g17, After-horner-g19, After-horner-g3, After-horner-g5, After-horner-g7, After-horner-g9}

at_19 : (c : After-horner-g19) → Alternating 1 c.args.q 19 21960409611558997 2 c.horner-g19.result
at_19 c = step 1 c.args.q 19 21960409611558997 21960409611558991 (2 ^ 63) 0 (2 ^ 63) c.horner-g19.result 420 (last 1 c.args.q 21 (zero-lt-suc 0) (zero-lt-suc 20)) c.horner-g19.ensures.horner refl (leb→le 2 420 tt) refl (leb→le (2 ^ 63) (420 * 21960409611558991) tt)

at_17 : (c : After-horner-g17) → Alternating 1 c.args.q 17 64211724010413 4 c.horner-g17.result
at_17 c = step 1 c.args.q 17 64211724010413 64211724010407 21960409611558997 2 c.horner-g19.result c.horner-g17.result 342 (at_19 c.before) c.horner-g17.ensures.horner refl (leb→le 2 342 tt) refl (leb→le 21960409611558997 (342 * 64211724010407) tt)

at_15 : (c : After-horner-g15) → Alternating 1 c.args.q 15 236072514751 6 c.horner-g15.result
at_15 c = step 1 c.args.q 15 236072514751 236072514745 64211724010413 4 c.horner-g17.result c.horner-g15.result 272 (at_17 c.before) c.horner-g15.ensures.horner refl (leb→le 2 272 tt) refl (leb→le 64211724010413 (272 * 236072514745) tt)

at_13 : (c : After-horner-g13) → Alternating 1 c.args.q 13 1124154839 8 c.horner-g13.result
at_13 c = step 1 c.args.q 13 1124154839 1124154833 236072514751 6 c.horner-g15.result c.horner-g13.result 210 (at_15 c.before) c.horner-g13.ensures.horner refl (leb→le 2 210 tt) refl (leb→le 236072514751 (210 * 1124154833) tt)

at_11 : (c : After-horner-g11) → Alternating 1 c.args.q 11 7206127 10 c.horner-g11.result
at_11 c = step 1 c.args.q 11 7206127 7206121 1124154839 8 c.horner-g13.result c.horner-g11.result 156 (at_13 c.before) c.horner-g11.ensures.horner refl (leb→le 2 156 tt) refl (leb→le 1124154839 (156 * 7206121) tt)

at_9 : (c : After-horner-g9) → Alternating 1 c.args.q 9 65517 12 c.horner-g9.result
at_9 c = step 1 c.args.q 9 65517 65511 7206127 10 c.horner-g11.result c.horner-g9.result 110 (at_11 c.before) c.horner-g9.ensures.horner refl (leb→le 2 110 tt) refl (leb→le 7206127 (110 * 65511) tt)

at_7 : (c : After-horner-g7) → Alternating 1 c.args.q 7 916 14 c.horner-g7.result
at_7 c = step 1 c.args.q 7 916 910 65517 12 c.horner-g9.result c.horner-g7.result 72 (at_9 c.before) c.horner-g7.ensures.horner refl (leb→le 2 72 tt) refl (leb→le 65517 (72 * 910) tt)

at_5 : (c : After-horner-g5) → Alternating 1 c.args.q 5 28 16 c.horner-g5.result
at_5 c = step 1 c.args.q 5 28 22 916 14 c.horner-g7.result c.horner-g5.result 42 (at_7 c.before) c.horner-g5.ensures.horner refl (leb→le 2 42 tt) refl (leb→le 916 (42 * 22) tt)

at_3 : (c : After-horner-g3) → Alternating 1 c.args.q 3 8 18 c.horner-g3.result
at_3 c = step 1 c.args.q 3 8 2 28 16 c.horner-g5.result c.horner-g3.result 20 (at_5 c.before) c.horner-g3.ensures.horner refl (leb→le 2 20 tt) refl (leb→le 28 (20 * 2) tt)

at_1 : (c : After-horner) → Alternating 1 c.args.q 1 20 20 c.horner.result
at_1 c = step 1 c.args.q 1 20 14 8 18 c.horner-g3.result c.horner.result 6 (at_3 c.before) c.horner.ensures.horner refl (leb→le 2 6 tt) refl (leb→le 8 (6 * 14) tt)

pub returns : goal.returns
unfolding SmallValues.odd_sum
returns c = record { alternating = at_1 c; value = rw (c.horner.ensures.value, c.horner-g3.ensures.value, c.horner-g5.ensures.value, c.horner-g7.ensures.value, c.horner-g9.ensures.value, c.horner-g11.ensures.value, c.horner-g13.ensures.value, c.horner-g15.ensures.value, c.horner-g17.ensures.value, c.horner-g19.ensures.value) }

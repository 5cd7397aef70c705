-- `circle::sine_sum` meets its contract. Assumes nothing.
use mathlib.Core.Path.{refl}
use Prim.Native.Nat.{◌*◌, ◌^◌}
use native.Mathlib.Nat.{zero-lt-suc}
use lib.Dec.{leb→le}
use Rattle.circle.specs.Inside.Horner.{Alternating}
use Rattle.circle.specs.Inside.CircleValues as CircleValues
use Rattle.circle.proofs.Alternate.{last, step}
use Rattle.circle.proofs.sine_sum.Goals as goal
use Rattle.circle.proofs.sine_sum.Goals.{After-horner, After-horner-g3, After-horner-g5, After-horner-g7, After-horner-g9}

at_9 : (c : After-horner-g9) → Alternating 10 c.args.q 9 838488366986804 2 c.horner-g9.result
at_9 c = step 10 c.args.q 9 838488366986804 838488366986798 (2 ^ 63) 0 (2 ^ 63) c.horner-g9.result 110 (last 10 c.args.q 11 (zero-lt-suc 9) (zero-lt-suc 10)) c.horner-g9.ensures.horner refl (leb→le 2 110 tt) refl (leb→le (2 ^ 63) (110 * (10 * 10) * 838488366986798) tt)

at_7 : (c : After-horner-g7) → Alternating 10 c.args.q 7 116456717644 4 c.horner-g7.result
at_7 c = step 10 c.args.q 7 116456717644 116456717638 838488366986804 2 c.horner-g9.result c.horner-g7.result 72 (at_9 c.before) c.horner-g7.ensures.horner refl (leb→le 2 72 tt) refl (leb→le 838488366986804 (72 * (10 * 10) * 116456717638) tt)

at_5 : (c : After-horner-g5) → Alternating 10 c.args.q 5 27727796 6 c.horner-g5.result
at_5 c = step 10 c.args.q 5 27727796 27727790 116456717644 4 c.horner-g7.result c.horner-g5.result 42 (at_7 c.before) c.horner-g5.ensures.horner refl (leb→le 2 42 tt) refl (leb→le 116456717644 (42 * (10 * 10) * 27727790) tt)

at_3 : (c : After-horner-g3) → Alternating 10 c.args.q 3 13870 8 c.horner-g3.result
at_3 c = step 10 c.args.q 3 13870 13864 27727796 6 c.horner-g5.result c.horner-g3.result 20 (at_5 c.before) c.horner-g3.ensures.horner refl (leb→le 2 20 tt) refl (leb→le 27727796 (20 * (10 * 10) * 13864) tt)

at_1 : (c : After-horner) → Alternating 10 c.args.q 1 30 10 c.horner.result
at_1 c = step 10 c.args.q 1 30 24 13870 8 c.horner-g3.result c.horner.result 6 (at_3 c.before) c.horner.ensures.horner refl (leb→le 2 6 tt) refl (leb→le 13870 (6 * (10 * 10) * 24) tt)

pub returns : goal.returns
unfolding CircleValues.sine_sum
returns c = record { alternating = at_1 c; value = rw (c.horner.ensures.value, c.horner-g3.ensures.value, c.horner-g5.ensures.value, c.horner-g7.ensures.value, c.horner-g9.ensures.value) }

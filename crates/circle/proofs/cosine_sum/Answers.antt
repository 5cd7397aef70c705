-- `circle::cosine_sum` meets its contract. Assumes nothing.
use mathlib.Core.Path.{refl}
use Prim.Native.Nat.{◌*◌, ◌^◌}
use native.Mathlib.Nat.{zero-lt-suc}
use lib.Dec.{leb→le}
use Rattle.circle.specs.Inside.Horner.{Alternating}
use Rattle.circle.specs.Inside.CircleValues as CircleValues
use Rattle.circle.proofs.Alternate.{last, step}
use Rattle.circle.proofs.Opening.{taken_of}
use Rattle.circle.proofs.cosine_sum.Goals as goal
use Rattle.circle.proofs.cosine_sum.Goals.{After-horner, After-horner-g10, After-horner-g2, After-horner-g4, After-horner-g6, After-horner-g8}

at_10 : (c : After-horner-g10) → Alternating 10 c.args.q 10 698740305822338 2 c.horner-g10.result
at_10 c = step 10 c.args.q 10 698740305822338 698740305822332 (2 ^ 63) 0 (2 ^ 63) c.horner-g10.result 132 (last 10 c.args.q 12 (zero-lt-suc 9) (zero-lt-suc 11)) c.horner-g10.ensures.horner refl (leb→le 2 132 tt) refl (leb→le (2 ^ 63) (132 * (10 * 10) * 698740305822332) tt)

at_8 : (c : After-horner-g8) → Alternating 10 c.args.q 8 77637811765 4 c.horner-g8.result
at_8 c = step 10 c.args.q 8 77637811765 77637811759 698740305822338 2 c.horner-g10.result c.horner-g8.result 90 (at_10 c.before) c.horner-g8.ensures.horner refl (leb→le 2 90 tt) refl (leb→le 698740305822338 (90 * (10 * 10) * 77637811759) tt)

at_6 : (c : After-horner-g6) → Alternating 10 c.args.q 6 13863901 6 c.horner-g6.result
at_6 c = step 10 c.args.q 6 13863901 13863895 77637811765 4 c.horner-g8.result c.horner-g6.result 56 (at_8 c.before) c.horner-g6.ensures.horner refl (leb→le 2 56 tt) refl (leb→le 77637811765 (56 * (10 * 10) * 13863895) tt)

at_4 : (c : After-horner-g4) → Alternating 10 c.args.q 4 4628 8 c.horner-g4.result
at_4 c = step 10 c.args.q 4 4628 4622 13863901 6 c.horner-g6.result c.horner-g4.result 30 (at_6 c.before) c.horner-g4.ensures.horner refl (leb→le 2 30 tt) refl (leb→le 13863901 (30 * (10 * 10) * 4622) tt)

at_2 : (c : After-horner-g2) → Alternating 10 c.args.q 2 10 10 c.horner-g2.result
at_2 c = step 10 c.args.q 2 10 4 4628 8 c.horner-g4.result c.horner-g2.result 12 (at_4 c.before) c.horner-g2.ensures.horner refl (leb→le 2 12 tt) refl (leb→le 4628 (12 * (10 * 10) * 4) tt)

at_0 : (c : After-horner) → Alternating 10 c.args.q 0 7 12 c.horner.result
at_0 c = step 10 c.args.q 0 7 1 10 10 c.horner-g2.result c.horner.result 2 (at_2 c.before) c.horner.ensures.horner refl (leb→le 2 2 tt) refl (leb→le 10 (2 * (10 * 10) * 1) tt)

pub returns : goal.returns
unfolding CircleValues.cosine_sum
returns c = record { cosine_sum = taken_of c.args.q c.horner-g4.result c.horner-g2.result c.horner.result (at_4 c.before.before).most c.horner-g2.ensures.horner c.horner.ensures.horner (at_0 c); value = rw (c.horner.ensures.value, c.horner-g2.ensures.value, c.horner-g4.ensures.value, c.horner-g6.ensures.value, c.horner-g8.ensures.value, c.horner-g10.ensures.value) }

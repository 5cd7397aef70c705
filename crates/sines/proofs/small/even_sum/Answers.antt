-- `small::even_sum` meets its contract. Assumes nothing.
use mathlib.Core.Path.{refl}
use Prim.Native.Nat.{◌*◌, ◌^◌}
use native.Mathlib.Nat.{zero-lt-suc}
use lib.Dec.{leb→le}
use Rattle.circle.specs.Inside.Horner.{Alternating}
use Rattle.sines.specs.Inside.SmallValues as SmallValues
use Rattle.circle.proofs.Alternate.{last, step}
use Rattle.sines.proofs.small.even_sum.Goals as goal
use Rattle.sines.proofs.small.even_sum.Goals.{After-horner, After-horner-g10, After-horner-g12, After-horner-g14, After-horner-g16, After-horner-g18, After-horner-g2, After-horner-g4, After-horner-g6, After-horner-g8}

at_18 : (c : After-horner-g18) → Alternating 1 c.args.q 18 24272031675933627 2 c.horner-g18.result
at_18 c = step 1 c.args.q 18 24272031675933627 24272031675933621 (2 ^ 63) 0 (2 ^ 63) c.horner-g18.result 380 (last 1 c.args.q 20 (zero-lt-suc 0) (zero-lt-suc 19)) c.horner-g18.ensures.horner refl (leb→le 2 380 tt) refl (leb→le (2 ^ 63) (380 * 24272031675933621) tt)

at_16 : (c : After-horner-g16) → Alternating 1 c.args.q 16 79320364954038 4 c.horner-g16.result
at_16 c = step 1 c.args.q 16 79320364954038 79320364954032 24272031675933627 2 c.horner-g18.result c.horner-g16.result 306 (at_18 c.before) c.horner-g16.ensures.horner refl (leb→le 2 306 tt) refl (leb→le 24272031675933627 (306 * 79320364954032) tt)

at_14 : (c : After-horner-g14) → Alternating 1 c.args.q 14 330501520648 6 c.horner-g14.result
at_14 c = step 1 c.args.q 14 330501520648 330501520642 79320364954038 4 c.horner-g16.result c.horner-g14.result 240 (at_16 c.before) c.horner-g14.ensures.horner refl (leb→le 2 240 tt) refl (leb→le 79320364954038 (240 * 330501520642) tt)

at_12 : (c : After-horner-g12) → Alternating 1 c.args.q 12 1815942428 8 c.horner-g12.result
at_12 c = step 1 c.args.q 12 1815942428 1815942422 330501520648 6 c.horner-g14.result c.horner-g12.result 182 (at_14 c.before) c.horner-g12.ensures.horner refl (leb→le 2 182 tt) refl (leb→le 330501520648 (182 * 1815942422) tt)

at_10 : (c : After-horner-g10) → Alternating 1 c.args.q 10 13757146 10 c.horner-g10.result
at_10 c = step 1 c.args.q 10 13757146 13757140 1815942428 8 c.horner-g12.result c.horner-g10.result 132 (at_12 c.before) c.horner-g10.ensures.horner refl (leb→le 2 132 tt) refl (leb→le 1815942428 (132 * 13757140) tt)

at_8 : (c : After-horner-g8) → Alternating 1 c.args.q 8 152864 12 c.horner-g8.result
at_8 c = step 1 c.args.q 8 152864 152858 13757146 10 c.horner-g10.result c.horner-g8.result 90 (at_10 c.before) c.horner-g8.ensures.horner refl (leb→le 2 90 tt) refl (leb→le 13757146 (90 * 152858) tt)

at_6 : (c : After-horner-g6) → Alternating 1 c.args.q 6 2736 14 c.horner-g6.result
at_6 c = step 1 c.args.q 6 2736 2730 152864 12 c.horner-g8.result c.horner-g6.result 56 (at_8 c.before) c.horner-g6.ensures.horner refl (leb→le 2 56 tt) refl (leb→le 152864 (56 * 2730) tt)

at_4 : (c : After-horner-g4) → Alternating 1 c.args.q 4 98 16 c.horner-g4.result
at_4 c = step 1 c.args.q 4 98 92 2736 14 c.horner-g6.result c.horner-g4.result 30 (at_6 c.before) c.horner-g4.ensures.horner refl (leb→le 2 30 tt) refl (leb→le 2736 (30 * 92) tt)

at_2 : (c : After-horner-g2) → Alternating 1 c.args.q 2 15 18 c.horner-g2.result
at_2 c = step 1 c.args.q 2 15 9 98 16 c.horner-g4.result c.horner-g2.result 12 (at_4 c.before) c.horner-g2.ensures.horner refl (leb→le 2 12 tt) refl (leb→le 98 (12 * 9) tt)

at_0 : (c : After-horner) → Alternating 1 c.args.q 0 20 20 c.horner.result
at_0 c = step 1 c.args.q 0 20 14 15 18 c.horner-g2.result c.horner.result 2 (at_2 c.before) c.horner.ensures.horner refl (leb→le 2 2 tt) refl (leb→le 15 (2 * 14) tt)

pub returns : goal.returns
unfolding SmallValues.even_sum
returns c = record { alternating = at_0 c; value = rw (c.horner.ensures.value, c.horner-g2.ensures.value, c.horner-g4.ensures.value, c.horner-g6.ensures.value, c.horner-g8.ensures.value, c.horner-g10.ensures.value, c.horner-g12.ensures.value, c.horner-g14.ensures.value, c.horner-g16.ensures.value, c.horner-g18.ensures.value) }

-- `arith::root::scale` meets its contract (`proofs/root/Unpack.antt`). Assumes nothing.
use Rattle.std.proofs.Common.{◌≡◌, ◌-◌, ◌*◌, ◌%◌, ◌^◌, ◌<◌, ◌∙◌, mod-eq_of_lt, arith, eq-eqb, ne_eqb}
use lib.Bits.{bit_and}
use lib.Count.{count_leading_zeros, leading_le}
use Rattle.arith.specs.Inside.Scaled.{IsScaled, scaled}
use Rattle.arith.proofs.root.Unpack.{mask, Moved, moved, kept, scaled_low, scaled_high}
use Rattle.arith.proofs.root.scale.Goals as goal
use Rattle.arith.proofs.root.scale.Goals.{Then-field-eq0}

-- with a field of zeros the pattern is its digits
short : (c : Then-field-eq0) → c.args.bits < 2 ^ 52
short c = omega arith

digits : (c : Then-field-eq0) → bit_and c.args.bits (2 ^ 52 - 1) ≡ c.args.bits
digits c = mask c.args.bits ∙ mod-eq_of_lt (short c)

facts : (c : Then-field-eq0) → Moved c.args.bits (count_leading_zeros 64 c.args.bits)
facts c = moved c.args.bits c.requires.0 (short c)

pub overflow_cast-zeros : goal.overflow_cast-zeros
overflow_cast-zeros c = omega (arith, leading_le 64 (bit_and c.args.bits (2 ^ 52 - 1)))

pub overflow_sub-zeros : goal.overflow_sub-zeros
overflow_sub-zeros c = rw (digits c) (facts c).lead

pub overflow_shl-result : goal.overflow_shl-result
overflow_shl-result c = rw (digits c) (omega (arith, facts c))

pub overflow_sub-result : goal.overflow_sub-result
overflow_sub-result c = rw (digits c) (omega (arith, facts c))

pub overflow_add-result : goal.overflow_add-result
overflow_add-result c = omega (arith, mask c.args.bits)

low : (c : Then-field-eq0) → IsScaled c.args.bits (bit_and c.args.bits (2 ^ 52 - 1) * 2 ^ (count_leading_zeros 64 (bit_and c.args.bits (2 ^ 52 - 1)) - 11) % 2 ^ 64) (1074 - (count_leading_zeros 64 (bit_and c.args.bits (2 ^ 52 - 1)) - 11))
low c = rw (digits c) (scaled_low c.args.bits (count_leading_zeros 64 c.args.bits) c.requires.0 (short c) (facts c))

pub invariant_of-result : goal.invariant_of-result
invariant_of-result c =
    let s = low c in
    record { digits = (s.least, s.most); exponent = (s.from, s.upto) }

pub returns-then-field-eq0 : goal.returns-then-field-eq0
unfolding scaled
returns-then-field-eq0 c =
    let b = c.before in
    record { scaled = low b; value = rw (eq-eqb _ _ b.if-field-eq0.true, digits b, mod-eq_of_lt (short b), kept _ _ (facts b)) }

pub returns : goal.returns
unfolding scaled
returns c =
    let b = c.before in
    record { scaled = rw (mask b.args.bits) (scaled_high b.args.bits (omega arith) b.requires.1); value = rw (ne_eqb _ _ b.if-field-eq0.false, mask b.args.bits) }

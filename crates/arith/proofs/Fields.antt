-- A bit pattern of 64 binary digits as its fields: the sign, the exponent's field of 11 digits and the 52 digits below it. Assumes nothing.
use Rattle.std.proofs.Common.{◌≡◌, ℕ, ◌/◌, ◌%◌, ◌^◌, ◌<◌, ◌≤◌, Bool, true, false, leb, refl, ap, ◌∙◌, mod-eq_of_lt, le→leb}
use lib.Arith.{lt→nleb}
use lib.Ieee.{binary64, of_fields, of_bits}
use lib.Ieee.Bits.{is_true, is_false}
use Rattle.arith.specs.Double.{bits}

pub bits_fields : (b : ℕ) → bits b ≡ of_fields binary64 (leb (2 ^ 63) b) (b % 2 ^ 63 / 2 ^ 52) (b % 2 ^ 52)
unfolding of_bits
bits_fields b = refl

pub bits_negative : (b : ℕ) → 2 ^ 63 ≤ b → bits b ≡ of_fields binary64 true (b % 2 ^ 63 / 2 ^ 52) (b % 2 ^ 52)
bits_negative b h = bits_fields b ∙ ap (λ (s : Bool). of_fields binary64 s (b % 2 ^ 63 / 2 ^ 52) (b % 2 ^ 52)) (is_true (leb (2 ^ 63) b) (le→leb (2 ^ 63) b h))

pub bits_unsigned : (b : ℕ) → b < 2 ^ 63 → bits b ≡ of_fields binary64 false (b / 2 ^ 52) (b % 2 ^ 52)
bits_unsigned b h =
    bits_fields b
    ∙ ap (λ (s : Bool). of_fields binary64 s (b % 2 ^ 63 / 2 ^ 52) (b % 2 ^ 52)) (is_false (leb (2 ^ 63) b) (lt→nleb (2 ^ 63) b h))
    ∙ ap (λ (x : ℕ). of_fields binary64 false (x / 2 ^ 52) (b % 2 ^ 52)) (mod-eq_of_lt h)

-- Worked cases, each by computation: what the definition gives, bit for bit.
use Rattle.std.specs.Prelude.{ℕ, ◌^◌, ◌≡◌, refl, Bool, true, List, [], ◌∷◌, map}
use Rattle.std.specs.Int.Count.{count_leading_zeros}
use Rattle.std.specs.Float.Ieee.{add, sub, mul, div, neg, lt, le, of_int, of_bits, to_bits}
use Rattle.arith.specs.Double.{bits, bits_of}
use Rattle.arith.specs.Inside.Scaled as Scaled
use Rattle.circle.specs.Inside.FixedValues as Fixed
use Rattle.circle.specs.Inside.CircleValues as Circle
use Rattle.arctangents.specs.Inside.ArctangentValues as Arctangents
use Rattle.arctangents.specs.Functions.{arctangent}

-- What computing an arctangent unfolds: a theorem by computation names this alone.
unfoldable pub computed : Bool
unfolding count_leading_zeros add sub mul div neg lt le of_int of_bits to_bits Scaled.scaled Fixed.unpacked Fixed.high Fixed.horner Fixed.parts Circle.doubled Circle.cosine_sum Circle.sine_sum Circle.first Circle.circle Arctangents.reaches Arctangents.above Arctangents.below Arctangents.further Arctangents.encloses Arctangents.fine Arctangents.beneath Arctangents.is_sure Arctangents.arctangent_series Arctangents.beside Arctangents.guess Arctangents.halved Arctangents.bisected_from Arctangents.bisected Arctangents.arctangent_above_zero Arctangents.ranged_arctangent Arctangents.arctangent
computed = true

-- x and its arctangent, by their bits
abbrev Case : Type 0
Case = ℕ × ℕ

-- at 1e-9, 0.3, 0.6, 0.8, 1, 2, 3.5 and 10, one for each branch of the guess, and at 0, the infinity and -1
abbrev pub arctangents : List Case
arctangents =
    (0x3e11_2e0b_e826_d695, 0x3e11_2e0b_e826_d695) ∷
    (0x3fd3_3333_3333_3333, 0x3fd2_a73a_661e_af06) ∷
    (0x3fe3_3333_3333_3333, 0x3fe1_4b1d_d5f9_0ce1) ∷
    (0x3fe9_9999_9999_999a, 0x3fe5_977a_5103_ea93) ∷
    (0x3ff0_0000_0000_0000, 0x3fe9_21fb_5444_2d18) ∷
    (0x4000_0000_0000_0000, 0x3ff1_b6e1_92eb_be44) ∷
    (0x400c_0000_0000_0000, 0x3ff4_ae10_fc65_89a5) ∷
    (0x4024_0000_0000_0000, 0x3ff7_89bd_2c16_0054) ∷
    (0x0000_0000_0000_0000, 0x0000_0000_0000_0000) ∷
    (0x7ff0_0000_0000_0000, 0x3ff9_21fb_5444_2d18) ∷
    (0xbff0_0000_0000_0000, 0x7ff8_0000_0000_0000) ∷
    []

pub arctangents_as_listed : map (λ (c : Case). bits_of (arctangent (bits c.0))) arctangents ≡ map (λ (c : Case). c.1) arctangents
unfolding computed
arctangents_as_listed = refl

-- of 1 by bisection, to which no argument is known to come: 2 ^ -41.3 less than a quarter of π, in units of 2 ^ -58
pub bisected_one : Arctangents.bisected (2 ^ 52) 2096 ≡ 226375608064802816
unfolding computed
bisected_one = refl

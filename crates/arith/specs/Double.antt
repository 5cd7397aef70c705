-- The words in which the definitions of every crate speak of doubles. Each operation rounds once, to the nearest double, ties to even.
use Rattle.std.specs.Prelude.{ℕ, List, pos, from_bits, slice_index_or, to_bits, Float}
use Rattle.std.specs.Float.{nan, binary64}
use Rattle.std.specs.Float.Ieee.{add, sub, mul, div, of_int}

infixl 65 ◌⊕◌
infixl 65 ◌⊖◌
infixl 70 ◌⊗◌
infixl 70 ◌⊘◌
abbrev pub ◌⊕◌ : Float → Float → Float
x ⊕ y = add binary64 x y

abbrev pub ◌⊖◌ : Float → Float → Float
x ⊖ y = sub binary64 x y

abbrev pub ◌⊗◌ : Float → Float → Float
x ⊗ y = mul binary64 x y

abbrev pub ◌⊘◌ : Float → Float → Float
x ⊘ y = div binary64 x y

-- the double of a whole number
abbrev pub dbl : ℕ → Float
dbl n = of_int binary64 (pos n)

-- the double with this bit pattern: for every NaN pattern `nan`
abbrev pub bits : ℕ → Float
bits b = from_bits binary64 b

-- the bit pattern of a double; 7ff8_0000_0000_0000 for `nan`
abbrev pub bits_of : Float → ℕ
bits_of x = to_bits binary64 x

-- the double at index i of a list. No code reads past the end, where this is `nan`
abbrev pub at : List Float → ℕ → Float
at xs i = slice_index_or xs i nan

-- ---- constants by their bits. `Examples.antt` shows that each is the double nearest to the number that names it
abbrev pub #0 : Float
#0 = bits 0x0000_0000_0000_0000

abbrev pub #0·5 : Float
#0·5 = bits 0x3fe0_0000_0000_0000

abbrev pub #1 : Float
#1 = bits 0x3ff0_0000_0000_0000

abbrev pub #1·5 : Float
#1·5 = bits 0x3ff8_0000_0000_0000

abbrev pub #π/2 : Float
#π/2 = bits 0x3ff9_21fb_5444_2d18

abbrev pub #2 : Float
#2 = bits 0x4000_0000_0000_0000

abbrev pub #3 : Float
#3 = bits 0x4008_0000_0000_0000

abbrev pub #4 : Float
#4 = bits 0x4010_0000_0000_0000

abbrev pub #5 : Float
#5 = bits 0x4014_0000_0000_0000

abbrev pub #1e-280 : Float
#1e-280 = bits 0x05cd_0b15_a491_eb84

abbrev pub #1e-200 : Float
#1e-200 = bits 0x1668_7e92_154e_f7ac

abbrev pub #1e-100 : Float
#1e-100 = bits 0x2b2b_ff2e_e48e_0530

abbrev pub #1e-60 : Float
#1e-60 = bits 0x3379_b604_aaac_a626

abbrev pub #1e-30 : Float
#1e-30 = bits 0x39b4_484b_feeb_c2a0

abbrev pub #1e-14 : Float
#1e-14 = bits 0x3d06_849b_86a1_2b9b

abbrev pub #1e-10 : Float
#1e-10 = bits 0x3ddb_7cdf_d9d7_bdbb

abbrev pub #1e-8 : Float
#1e-8 = bits 0x3e45_798e_e230_8c3a

abbrev pub #1e100 : Float
#1e100 = bits 0x54b2_49ad_2594_c37d

abbrev pub #1e300 : Float
#1e300 = bits 0x7e37_e43c_8800_759c

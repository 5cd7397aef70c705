-- Worked examples of the definitions, each table with one theorem over it.
use Rattle.std.specs.Prelude.{◌≡◌, ℕ, ◌^◌, false, List, [], ◌∷◌, map, refl, Float}
use Rattle.std.specs.Float.{binary64}
use Rattle.std.specs.Float.Ieee.{round, of_bits, to_bits}
use Rattle.arith.specs.Double.{bits, bits_of, #0, #0·5, #1, #1·5, #π/2, #2, #3, #4, #5, #1e-280, #1e-200, #1e-100, #1e-60, #1e-30, #1e-14, #1e-10, #1e-8, #1e100, #1e300}
use Rattle.arith.specs.Root.{sqrt}

-- ---- roots

-- A double and its square root, by their bits; 7ff8_0000_0000_0000 is written for no number. The first is the root of 2.
abbrev pub roots : List (ℕ × ℕ)
roots =
    (0x4000_0000_0000_0000, 0x3ff6_a09e_667f_3bcd) ∷
    -- 3, 0.1 and 1e100
    (0x4008_0000_0000_0000, 0x3ffb_b67a_e858_4caa) ∷
    (0x3fb9_9999_9999_999a, 0x3fd4_3d13_6248_490f) ∷
    (0x54b2_49ad_2594_c37d, 0x4a51_1b0e_c57e_649a) ∷
    -- exact squares: a quarter, 9, and that of 2 ^ 26 - 1
    (0x3fd0_0000_0000_0000, 0x3fe0_0000_0000_0000) ∷
    (0x4022_0000_0000_0000, 0x4008_0000_0000_0000) ∷
    (0x432f_ffff_f000_0002, 0x418f_ffff_f800_0000) ∷
    -- the doubles just beside 1, 4 and 2 ^ 52
    (0x3fef_ffff_ffff_ffff, 0x3fef_ffff_ffff_ffff) ∷
    (0x3ff0_0000_0000_0001, 0x3ff0_0000_0000_0000) ∷
    (0x400f_ffff_ffff_ffff, 0x3fff_ffff_ffff_ffff) ∷
    (0x4010_0000_0000_0001, 0x4000_0000_0000_0000) ∷
    (0x4330_0000_0000_0001, 0x4190_0000_0000_0000) ∷
    -- the smallest double, the largest subnormal one, the smallest normal one and the largest
    (0x0000_0000_0000_0001, 0x1e60_0000_0000_0000) ∷
    (0x000f_ffff_ffff_ffff, 0x1fff_ffff_ffff_ffff) ∷
    (0x0010_0000_0000_0000, 0x2000_0000_0000_0000) ∷
    (0x7fef_ffff_ffff_ffff, 0x5fef_ffff_ffff_ffff) ∷
    -- the zeros, the infinities, -2 and a NaN
    (0x0000_0000_0000_0000, 0x0000_0000_0000_0000) ∷
    (0x8000_0000_0000_0000, 0x8000_0000_0000_0000) ∷
    (0x7ff0_0000_0000_0000, 0x7ff0_0000_0000_0000) ∷
    (0xfff0_0000_0000_0000, 0x7ff8_0000_0000_0000) ∷
    (0xc000_0000_0000_0000, 0x7ff8_0000_0000_0000) ∷
    (0x7ff8_0000_0000_0000, 0x7ff8_0000_0000_0000) ∷
    []

-- the roots of the first numbers are the second numbers
pub roots_right : map (λ (row : ℕ × ℕ). bits_of (sqrt (bits row.0))) roots ≡ map (λ (row : ℕ × ℕ). row.1) roots
unfolding sqrt to_bits of_bits
roots_right = refl

-- ---- constants

-- A constant beside the fraction of whole numbers that names it.
abbrev pub constants : List (Float × ℕ × ℕ)
constants =
    (#0, 0, 1) ∷
    (#0·5, 1, 2) ∷
    (#1, 1, 1) ∷
    (#1·5, 3, 2) ∷
    (#2, 2, 1) ∷
    (#3, 3, 1) ∷
    (#4, 4, 1) ∷
    (#5, 5, 1) ∷
    (#1e-280, 1, 10 ^ 280) ∷
    (#1e-200, 1, 10 ^ 200) ∷
    (#1e-100, 1, 10 ^ 100) ∷
    (#1e-60, 1, 10 ^ 60) ∷
    (#1e-30, 1, 10 ^ 30) ∷
    (#1e-14, 1, 10 ^ 14) ∷
    (#1e-10, 1, 10 ^ 10) ∷
    (#1e-8, 1, 10 ^ 8) ∷
    (#1e100, 10 ^ 100, 1) ∷
    (#1e300, 10 ^ 300, 1) ∷
    []

-- each is the double nearest to its fraction
pub constants_right : map (λ (row : Float × ℕ × ℕ). row.0) constants ≡ map (λ (row : Float × ℕ × ℕ). round binary64 false row.1 row.2) constants
unfolding of_bits round
constants_right = refl

-- π/2 is 1.57079632679489661923.., half of DLMF 3.12's π, so it lies between these two fractions. Both round to the constant, and so does every number between them, since rounding keeps the order.
pub half_pi_right : (round binary64 false 157079632679489661923 (10 ^ 20) ≡ #π/2) × (round binary64 false 157079632679489661924 (10 ^ 20) ≡ #π/2)
unfolding of_bits round
half_pi_right = (refl, refl)

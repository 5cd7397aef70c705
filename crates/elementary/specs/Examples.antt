-- Worked cases, each by computation: the double nearest to the function's value is accepted, and one 2 ^ -39 away is not.
use Rattle.std.specs.Prelude.{ℕ, ◌+◌, ◌-◌, ◌*◌, ◌/◌, ◌^◌, ◌≡◌, refl, Bool, true, false, ◌&&◌, List, [], ◌∷◌, map, T, leb, Float}
use Rattle.std.specs.Float.Ieee.{of_bits}
use Rattle.std.specs.Float.Ieee.Positive.{num, den}
use Rattle.std.specs.Float.Ieee.Scale.{finite}
use Rattle.arith.specs.Double.{bits}
use Rattle.circle.specs.Series.{east, north, west, south, at, sum, part, falling, term}
use Rattle.circle.specs.Within.{plus, less}
use Rattle.sines.specs.Sine.{terms}
use Rattle.logarithms.specs.Log10.{Near}

-- `Within`, as a test
abbrev is_within : Float → ℕ → ℕ → ℕ → ℕ → ℕ → Bool
is_within r P Q unit i j =
    finite r
    && leb (2 ^ 40 * j * (plus r * unit + Q * den r)) (2 ^ 40 * j * (P * den r + less r * unit) + i * (den r * unit))
    && leb (2 ^ 40 * j * (P * den r + less r * unit)) (2 ^ 40 * j * (plus r * unit + Q * den r) + i * (den r * unit))

-- x, r, and whether r is accepted
abbrev Case : Type 0
Case = ℕ × ℕ × Bool

abbrev expected : List Case → List Bool
expected cs = map (λ (c : Case). c.2) cs

-- ---- sine and cosine, by the sums up to the n-th term
abbrev is_cosine : ℕ → ℕ → ℕ → Bool
is_cosine n x r =
    let u = terms (bits x) n in
    is_within (bits r) (part u n east) (part u n west) (u 0) 1 1

abbrev is_sine : ℕ → ℕ → ℕ → Bool
is_sine n x r =
    let u = terms (bits x) n in
    is_within (bits r) (part u n north) (part u n south) (u 0) 1 1 && is_within (bits r) (part u n north) (part u n south) (u 0) (num (bits x)) (den (bits x))

-- at 1, where the 40-th sum differs from the 600-th by less than 2 ^ -150
abbrev pub cosines : List Case
cosines =
    (0x3ff0_0000_0000_0000, 0x3fe1_4a28_0fb5_068c, true) ∷
    (0x3ff0_0000_0000_0000, 0x3fe1_4a28_0fb5_468c, false) ∷
    (0x3ff0_0000_0000_0000, 0x3fe1_4a28_0fb4_c68c, false) ∷
    []

pub cosines_as_listed : map (λ (c : Case). is_cosine 40 c.0 c.1) cosines ≡ expected cosines
unfolding of_bits falling at sum
cosines_as_listed = refl

-- at 1, and at 2 ^ -20, where the share of x refuses what is 2 ^ -59 away
abbrev pub sines : List Case
sines =
    (0x3ff0_0000_0000_0000, 0x3fea_ed54_8f09_0cee, true) ∷
    (0x3ff0_0000_0000_0000, 0x3fea_ed54_8f09_4cee, false) ∷
    (0x3ff0_0000_0000_0000, 0x3fea_ed54_8f08_ccee, false) ∷
    (0x3eb0_0000_0000_0000, 0x3eaf_ffff_ffff_faab, true) ∷
    (0x3eb0_0000_0000_0000, 0x3eb0_0000_0000_1d55, false) ∷
    []

pub sines_as_listed : map (λ (c : Case). is_sine 40 c.0 c.1) sines ≡ expected sines
unfolding of_bits falling at sum
sines_as_listed = refl

-- at 200, by the 600-th sum itself
pub cosine_200 : is_cosine 600 0x4069_0000_0000_0000 0x3fdf_2e15_36ca_d6e9 ≡ true
unfolding of_bits falling at sum
cosine_200 = refl

pub cosine_200_off : is_cosine 600 0x4069_0000_0000_0000 0x3fdf_2e15_36cb_56e9 ≡ false
unfolding of_bits falling at sum
cosine_200_off = refl

pub sine_200 : is_sine 600 0x4069_0000_0000_0000 0xbfeb_f20d_2c67_047f ≡ true
unfolding of_bits falling at sum
sine_200 = refl

pub sine_200_off : is_sine 600 0x4069_0000_0000_0000 0xbfeb_f20d_2c66_c47f ≡ false
unfolding of_bits falling at sum
sine_200_off = refl

-- ---- the arctangent: the whole numbers of 2 ^ -58 that are 2 ^ -40 below r and above it lie on the two sides, by the 40-th sums, which differ from the 600-th by less than 2 ^ -100
abbrev is_arctangent : ℕ → ℕ → Bool
is_arctangent x r =
    let a = bits x in
    let t = num (bits r) * 2 ^ 58 / den (bits r) in
    let u = term (t - 2 ^ 18) (2 ^ 58) 40 in
    let v = term (t + 2 ^ 18) (2 ^ 58) 40 in
    leb (part u 40 north * den a + part u 40 west * num a) (part u 40 east * num a + part u 40 south * den a)
    && leb (part v 40 east * num a + part v 40 south * den a) (part v 40 north * den a + part v 40 west * num a)

-- a quarter of π at 1, and half of it at 1e300
abbrev pub arctangents : List Case
arctangents =
    (0x3ff0_0000_0000_0000, 0x3fe9_21fb_5444_2d18, true) ∷
    (0x3ff0_0000_0000_0000, 0x3fe9_21fb_5444_6d18, false) ∷
    (0x3ff0_0000_0000_0000, 0x3fe9_21fb_5443_ed18, false) ∷
    (0x7e37_e43c_8800_759c, 0x3ff9_21fb_5444_2d18, true) ∷
    (0x7e37_e43c_8800_759c, 0x3ff9_21fb_5444_4d18, false) ∷
    []

pub arctangents_as_listed : map (λ (c : Case). is_arctangent c.0 c.1) arctangents ≡ expected arctangents
unfolding of_bits falling at sum
arctangents_as_listed = refl

-- ---- the decimal logarithm: at a power of ten the powers of `Near` have one base, so it says that r is within 2 ^ -20 of k (`at_powers_of_ten` proves it)
abbrev pub is_log_of_power : ℕ → Float → Bool
is_log_of_power k r =
    finite r
    && leb (k * (den r * 2 ^ 20) + less r * 2 ^ 20) (plus r * 2 ^ 20 + den r)
    && leb (plus r * 2 ^ 20) (less r * 2 ^ 20 + den r + k * (den r * 2 ^ 20))

abbrev pub AtPowersOfTen : Type 0
AtPowersOfTen = (x r : Float) (k : ℕ) → num x ≡ 10 ^ k → den x ≡ 1 → (Near x r → T (is_log_of_power k r)) × (T (is_log_of_power k r) → Near x r)

-- of 10: 1, and 2 ^ -21 or 2 ^ -19 from it; of 1e22: 22
abbrev pub logarithms : List Case
logarithms =
    (1, 0x3ff0_0000_0000_0000, true) ∷
    (1, 0x3ff0_0000_8000_0000, true) ∷
    (1, 0x3ff0_0002_0000_0000, false) ∷
    (1, 0x3fef_fffc_0000_0000, false) ∷
    (22, 0x4036_0000_0000_0000, true) ∷
    []

pub logarithms_as_listed : map (λ (c : Case). is_log_of_power c.0 (bits c.1)) logarithms ≡ expected logarithms
unfolding of_bits
logarithms_as_listed = refl

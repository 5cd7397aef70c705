-- What the functions of `sines` give, bit for bit. Definitions only.
use Rattle.std.specs.Prelude.{ℕ, ◌-◌, ◌*◌, ◌/◌, ◌%◌, ◌^◌, cond, eqb, Float}
use Rattle.std.specs.Float.{nan}
use Rattle.std.specs.Float.Ieee.{neg, lt}
use Rattle.arith.specs.Double.{◌⊕◌, ◌⊖◌, ◌⊗◌, ◌⊘◌, dbl, bits, bits_of, #0, #0·5, #1}
use Rattle.sines.specs.declared.Remainder.{Remainder}
use Rattle.sines.specs.Sine.{in_range, is_tiny}
use Rattle.circle.specs.Inside.FixedValues.{unpacked, tested}
use Rattle.circle.specs.Inside.CircleValues.{circle}
use Rattle.sines.specs.Inside.SmallValues.{low_sine, low_cosine}

-- x * 2 ^ 52
unfoldable pub scaled : Float → ℕ
scaled x =
    let s = unpacked x in
    s.m * 2 ^ (s.e - 2096)

-- ---- the guess in doubles

-- 2/π
abbrev two_over_pi : Float
two_over_pi = bits 0x3fe4_5f30_6dc9_c883

-- π/2 as a sum of three doubles, the first two of 33 binary digits
abbrev half_pi₁ : Float
half_pi₁ = bits 0x3ff9_21fb_5440_0000

abbrev half_pi₂ : Float
half_pi₂ = bits 0x3dd0_b461_1a60_0000

abbrev half_pi₃ : Float
half_pi₃ = bits 0x3ba3_198a_2e03_7073

-- 1.5 * 2 ^ 52: a double to which it is added is rounded to a whole number
abbrev shift : Float
shift = dbl (3 * 2 ^ 51)

-- what is left of x after the nearest multiple of π/2, and how many quarters of a turn that multiple is, with `ahead` more
unfoldable pub reduced : Float → Float → Remainder
reduced x ahead =
    let shifted = x ⊗ two_over_pi ⊕ shift in
    let k = shifted ⊖ shift in
    let a = x ⊖ k ⊗ half_pi₁ in
    let w = k ⊗ half_pi₂ in
    let b = a ⊖ w in
    let rest = a ⊖ b ⊖ w ⊖ k ⊗ half_pi₃ in
    let high = b ⊕ rest in
    record { quarters = bits_of (shifted ⊕ ahead) % 4; high = high; low = b ⊖ high ⊕ rest }

-- the sine of high + low, by its series to the 17th power
unfoldable pub sine_series : Float → Float → Float
sine_series high low =
    let z = high ⊗ high in
    let w = z ⊗ z in
    let even = neg #1 ⊘ dbl 6 ⊕ w ⊗ (neg #1 ⊘ dbl 5040 ⊕ w ⊗ (neg #1 ⊘ dbl 39916800 ⊕ w ⊗ (neg #1 ⊘ dbl 1307674368000))) in
    let odd = #1 ⊘ dbl 120 ⊕ w ⊗ (#1 ⊘ dbl 362880 ⊕ w ⊗ (#1 ⊘ dbl 6227020800 ⊕ w ⊗ (#1 ⊘ dbl 355687428096000))) in
    high ⊕ (high ⊗ z ⊗ (even ⊕ z ⊗ odd) ⊕ low ⊗ (#1 ⊖ #0·5 ⊗ z))

-- the cosine of high + low, by its series to the 16th power
unfoldable pub cosine_series : Float → Float → Float
cosine_series high low =
    let z = high ⊗ high in
    let w = z ⊗ z in
    let even = #1 ⊘ dbl 24 ⊕ w ⊗ (#1 ⊘ dbl 40320 ⊕ w ⊗ (#1 ⊘ dbl 479001600 ⊕ w ⊗ (#1 ⊘ dbl 20922789888000))) in
    let odd = neg #1 ⊘ dbl 720 ⊕ w ⊗ (neg #1 ⊘ dbl 3628800 ⊕ w ⊗ (neg #1 ⊘ dbl 87178291200)) in
    let half = #0·5 ⊗ z in
    let near = #1 ⊖ half in
    near ⊕ (#1 ⊖ near ⊖ half ⊕ (w ⊗ (even ⊕ z ⊗ odd) ⊖ high ⊗ low))

-- the sine of x and `ahead` quarters of a turn
unfoldable pub guess : Float → Float → Float
guess x ahead =
    let r = reduced x ahead in
    let s = sine_series r.high r.low in
    let c = cosine_series r.high r.low in
    cond (eqb r.quarters 0) s (cond (eqb r.quarters 1) c (cond (eqb r.quarters 2) (neg s) (neg c)))

-- ---- the guess, tested

-- the cosine of x, from 1 to 200: the guess, where the doubled angle proves it
unfoldable pub far_cosine : Float → Float
far_cosine x =
    let p = circle (scaled x) 11 in
    tested (guess x #1) p.cn (p.c / 2 ^ 11)

-- the sine of x, from 1 to 200: likewise
unfoldable pub far_sine : Float → Float
far_sine x =
    let p = circle (scaled x) 11 in
    tested (guess x #0) p.sn (p.s / 2 ^ 11)

-- the cosine of x, from 0 to 200
unfoldable pub ranged_cosine : Float → Float
ranged_cosine x = cond (is_tiny x) #1 (cond (lt x #1) (low_cosine x (guess x #1)) (far_cosine x))

-- the sine of x, from 0 to 200
unfoldable pub ranged_sine : Float → Float
ranged_sine x = cond (is_tiny x) x (cond (lt x #1) (low_sine x (guess x #0)) (far_sine x))

-- the cosine of any x
unfoldable pub cosine : Float → Float
cosine x = cond (in_range x) (ranged_cosine x) nan

-- the sine of any x
unfoldable pub sine : Float → Float
sine x = cond (in_range x) (ranged_sine x) nan

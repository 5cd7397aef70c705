-- What the functions of `arctangents` give, bit for bit. Definitions only.
use Rattle.std.specs.Prelude.{ℕ, zero, suc, ◌+◌, ◌-◌, ◌*◌, ◌/◌, ◌^◌, Bool, true, false, cond, ◌&&◌, ◌||◌, eqb, leb, ltb, Float}
use Rattle.std.specs.Float.{nan, inf}
use Rattle.std.specs.Float.Ieee.{neg, le, lt}
use Rattle.arith.specs.Double.{◌⊕◌, ◌⊖◌, ◌⊗◌, ◌⊘◌, dbl, bits, #0, #0·5, #1, #2, #4, #π/2}
use Rattle.circle.specs.declared.Pair.{Pair}
use Rattle.circle.specs.Inside.FixedValues.{unpacked, high, parts}
use Rattle.circle.specs.Inside.CircleValues.{circle}
use Rattle.arctangents.specs.declared.Bracket.{Bracket}

-- ---- the test in whole numbers

-- whether p * 2 ^ i is at most q * 2 ^ j, where that is sure
unfoldable pub reaches : ℕ → ℕ → ℕ → ℕ → Bool
reaches p q i j =
    cond (leb i j)
    (cond (ltb (j - i) 64) (ltb (p / 2 ^ (j - i)) q) (ltb (p / 2 ^ 63) q))
    (ltb (i - j) 64 && leb p (q / 2 ^ (i - j)))

-- whether the sine is surely no less than m * 2 ^ (e - 2148) times the cosine
unfoldable pub above : ℕ → ℕ → ℕ → ℕ → ℕ → ℕ → Bool
above c cn s sn m e =
    let west = leb 8192 c || reaches (high (8192 - c) (m * 2 ^ 10) + 4) (s - 8192) e 2095 in
    let east = reaches (high (c + 8192) (m * 2 ^ 10) + 4) (s - 8192) e 2095 in
    leb sn 0 && leb 8192 s && leb c (9 * 2 ^ 60) && cond (ltb 0 cn) west east

-- whether it is surely no more
unfoldable pub below : ℕ → ℕ → ℕ → ℕ → ℕ → ℕ → Bool
below c cn s sn m e =
    leb cn 0 && leb 8192 c && leb c (9 * 2 ^ 60) && leb s (9 * 2 ^ 60)
    && reaches (cond (ltb 0 sn) 8192 (s + 8192)) (high (c - 8192) (m * 2 ^ 10)) 2095 e

-- a cosine and a sine that are not negative, 2 ^ -40 further
unfoldable pub further : ℕ → ℕ → Pair
further c s =
    let t = s / 2 ^ 40 in
    record { c = cond (ltb c t) (t - c) (c - t); cn = cond (ltb c t) 1 0; s = s + c / 2 ^ 40; sn = 0 }

-- whether the arctangent of m * 2 ^ (e - 2148) lies surely from low / 2 ^ 58 to 2 ^ -40 more
unfoldable pub encloses : ℕ → ℕ → ℕ → Bool
encloses low m e =
    let p = circle low 5 in
    let q = further p.c p.s in
    leb p.cn 0 && leb p.sn 0 && above q.c q.cn q.s q.sn m e && (eqb low 0 || below p.c p.cn p.s p.sn m e)

-- the whole part of g * 2 ^ 58
unfoldable pub fine : Float → ℕ
fine g =
    let s = unpacked g in
    cond (ltb s.e 2033) 0 (s.m * 2 ^ 6 / 2 ^ (2096 - s.e))

-- y less 2 ^ 17, or 0 where y is below that
unfoldable pub beneath : ℕ → ℕ
beneath y = y - 2 ^ 17

-- whether g is above 0, below 7 / 4, and surely within 2 ^ -40 of the arctangent of m * 2 ^ (e - 2148)
unfoldable pub is_sure : Float → ℕ → ℕ → Bool
is_sure g m e = lt #0 g && lt g #2 && ltb (fine g) (7 * 2 ^ 56) && encloses (beneath (fine g)) m e

-- ---- the guess in doubles

-- the arctangent of t less t, by its series to the 21st power
unfoldable pub arctangent_series : Float → Float
arctangent_series t =
    let z = t ⊗ t in
    let w = z ⊗ z in
    let odd = neg #1 ⊘ dbl 3 ⊕ w ⊗ (neg #1 ⊘ dbl 7 ⊕ w ⊗ (neg #1 ⊘ dbl 11 ⊕ w ⊗ (neg #1 ⊘ dbl 15 ⊕ w ⊗ (neg #1 ⊘ dbl 19)))) in
    let even = #1 ⊘ dbl 5 ⊕ w ⊗ (#1 ⊘ dbl 9 ⊕ w ⊗ (#1 ⊘ dbl 13 ⊕ w ⊗ (#1 ⊘ dbl 17 ⊕ w ⊗ (#1 ⊘ dbl 21)))) in
    t ⊗ z ⊗ (odd ⊕ z ⊗ even)

-- the arctangent of t and the number high + low
unfoldable pub beside : Float → Float → Float → Float
beside t high low = high ⊕ (t ⊕ (arctangent_series t ⊕ low))

-- ---- constants of the guess, by their bits
abbrev #3/16 : Float
#3/16 = bits 0x3fc8_0000_0000_0000

abbrev #1/4 : Float
#1/4 = bits 0x3fd0_0000_0000_0000

abbrev #3/8 : Float
#3/8 = bits 0x3fd8_0000_0000_0000

abbrev #21/32 : Float
#21/32 = bits 0x3fe5_0000_0000_0000

abbrev #13/16 : Float
#13/16 = bits 0x3fea_0000_0000_0000

abbrev #5/4 : Float
#5/4 = bits 0x3ff4_0000_0000_0000

abbrev #25/16 : Float
#25/16 = bits 0x3ff9_0000_0000_0000

abbrev #11/4 : Float
#11/4 = bits 0x4006_0000_0000_0000

abbrev #8 : Float
#8 = bits 0x4020_0000_0000_0000

-- the arctangent of x by that of c, which is high + low
abbrev around : Float → Float → Float → Float → Float
around x c high low = beside ((x ⊖ c) ⊘ (#1 ⊕ c ⊗ x)) high low

-- of an x from 3/16 to 1, and from 1 to 11/4
abbrev guess_below_one : Float → Float
guess_below_one x =
    cond (lt x #3/8) (around x #1/4 (bits 0x3fcf_5b75_f92c_80dd) (bits 0x3c68_ab6e_3cf7_afbd))
    (cond (lt x #21/32) (around x #0·5 (bits 0x3fdd_ac67_0561_bb4f) (bits 0x3c7a_2b7f_222f_65e2))
    (around x #13/16 (bits 0x3fe5_d589_8716_9b18) (bits 0x3c60_028e_4bc5_e7ca)))

abbrev guess_from_one : Float → Float
guess_from_one x =
    cond (lt x #25/16) (around x #5/4 (bits 0x3fec_ac7c_5784_6f9e) (bits 0x3c80_dae1_3ad1_8a6b))
    (around x #2 (bits 0x3ff1_b6e1_92eb_be44) (bits 0x3c9b_1b46_6a88_828e))

-- of any x above zero: below 3/16 by the series alone, from 8 on by π/2
unfoldable pub guess : Float → Float
guess x =
    cond (lt x #3/16) (x ⊕ arctangent_series x)
    (cond (lt x #1) (guess_below_one x)
    (cond (lt x #11/4) (guess_from_one x)
    (cond (lt x #8) (around x #4 (bits 0x3ff5_368c_951e_9cfd) (neg (bits 0x3c99_6f47_948a_99f1)))
    (beside (neg #1 ⊘ x) #π/2 (bits 0x3c91_a626_3314_5c07)))))

-- ---- by bisection, where the guess is not sure

-- closer bounds of the arctangent of m * 2 ^ (e - 2148), in units of 2 ^ -58
unfoldable pub halved : ℕ → ℕ → ℕ → ℕ → Bracket
halved low up m e =
    let mid = low + (up - low) / 2 in
    let p = circle mid 5 in
    let q = circle (mid + 2 ^ 16) 5 in
    cond {A = Bracket} (above p.c p.cn p.s p.sn m e) (record { low = low; up = mid })
    (cond {A = Bracket} (below p.c p.cn p.s p.sn m e) (record { low = mid; up = up })
    (cond {A = Bracket} (above q.c q.cn q.s q.sn m e) (record { low = low; up = mid + 2 ^ 16 })
    (record { low = low; up = low })))

-- the lower bound, once the two are near, in so many turns at most
unfoldable pub bisected_from : ℕ → ℕ → ℕ → ℕ → ℕ → ℕ
bisected_from m e zero low up = low
bisected_from m e (suc left) low up = elim (ltb (low + 0x3ffc0) up) [
  | true ↦ let h = halved low up m e in bisected_from m e left h.low h.up
  | false ↦ low
]

-- from 0 and 2 on; no turn leaves the bounds as far apart as they were, so 2 ^ 59 turns are enough
unfoldable pub bisected : ℕ → ℕ → ℕ
bisected m e = bisected_from m e (2 ^ 59) 0 (2 ^ 59)

-- ---- the arctangent

-- of a finite x above zero
unfoldable pub arctangent_above_zero : Float → Float
arctangent_above_zero x =
    let s = unpacked x in
    let g = guess x in
    elim (is_sure g s.m s.e) [ true ↦ g | false ↦ parts (bisected s.m s.e / 2 ^ 6) ]

-- of a finite x from 0 on
unfoldable pub ranged_arctangent : Float → Float
ranged_arctangent x = cond (lt #0 x) (arctangent_above_zero x) x

-- of any x
unfoldable pub arctangent : Float → Float
arctangent x = cond (le #0 x) (cond (lt x (inf false)) (ranged_arctangent x) #π/2) nan

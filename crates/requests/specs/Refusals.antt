-- The refusals of a mode, in document 01's order, and 11, which is Card 2's. Definitions only.
use Rattle.std.specs.Prelude.{ℕ, ◌+◌, ◌-◌, ◌*◌, Bool, true, false, cond, not, ◌&&◌, ◌||◌, eqb, ltb, Float}
use Rattle.std.specs.Float.{nan, inf, fin}
use Rattle.std.specs.Float.Ieee.{lt, eq, neg}
use Rattle.arith.specs.Double.{◌⊗◌, bits, #0, #1}
use Rattle.arith.specs.Truncation.{whole_part}
use Rattle.expansion.specs.Terms.{#175, h_of, terms_of}
use Rattle.expansion.specs.declared.terms.Mode as expansion
use Rattle.requests.specs.declared.checking.Kind.{Kind}
use Rattle.requests.specs.declared.checking.Kind.TheVariants.{Prolate, Oblate}
use Rattle.requests.specs.declared.checking.Mode.{Mode}

-- the sign kd is 1 for prolate, −1 for oblate
unfoldable pub sign_of : Kind → Float
sign_of Prolate = #1
sign_of Oblate = neg #1

-- cs is c × c × kd
abbrev pub cs_of : Kind → Mode → Float
cs_of kind x = x.c ⊗ x.c ⊗ sign_of kind

-- K is 10 + H truncated
unfoldable pub entries_of : Mode → ℕ
entries_of x = 10 + whole_part (h_of (x.n - x.m) x.c)

-- ---- the limit 291; 175 is `expansion`'s
abbrev pub #291 : Float
#291 = bits 0x4072_3000_0000_0000

-- ---- 4: m > 199, n < m, or n − m > 199
unfoldable pub out_of_range : Mode → Bool
out_of_range x = ltb 199 x.m || ltb x.n x.m || ltb 199 (x.n - x.m)

-- ---- 5: c is NaN, infinite or below zero
unfoldable pub no_parameter : Float → Bool
no_parameter nan = true
no_parameter (inf s) = true
no_parameter (fin s m e) = lt (fin s m e) #0

-- ---- the first of 4, 5 and 6 that applies, or 0 for none; 6 is that H is the limit or more
unfoldable pub refusal_of : Float → Mode → ℕ
refusal_of limit x = cond (out_of_range x) 4 (cond (no_parameter x.c) 5 (cond (lt (h_of (x.n - x.m) x.c) limit) 0 6))

abbrev pub row_refusal : Mode → ℕ
row_refusal x = refusal_of #291 x

abbrev pub mode_refusal : Mode → ℕ
mode_refusal x = refusal_of #175 x

-- what was asked for, of a mode that the routines over its coefficients take
abbrev pub asked : expansion.Mode → Mode
asked mode = record { m = mode.m; n = mode.n; c = mode.c }

-- ---- 6 for operations 5 and 8: N + m is above 200
unfoldable pub too_many_terms : Mode → Bool
too_many_terms x = ltb 200 (terms_of (x.n - x.m) x.c + x.m)

-- ---- 7: cv is NaN or infinite
unfoldable pub not_finite : Float → Bool
not_finite nan = true
not_finite (inf s) = true
not_finite (fin s m e) = false

-- ---- the first of 4, 5, 6 and 7 that applies to operations 5 and 8, or 0 for none
unfoldable pub radial_mode_refusal : Mode → Float → ℕ
radial_mode_refusal x cv = cond (eqb (mode_refusal x) 0) (cond (too_many_terms x) 6 (cond (not_finite cv) 7 0)) (mode_refusal x)

abbrev pub #200 : Float
#200 = bits 0x4069_0000_0000_0000

-- ---- 11: x isn't zero of either sign (past 8, it is above zero), and 2N + m is above 251 or c × x, rounded, is above 200
unfoldable pub too_far : Mode → Float → Bool
too_far mode x = not (eq x #0) && (ltb 251 (2 * terms_of (mode.n - mode.m) mode.c + mode.m) || lt #200 (mode.c ⊗ x))

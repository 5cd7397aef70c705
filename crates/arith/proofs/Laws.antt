-- Laws of the definitions, for the crates above. Assumes nothing.
use Rattle.std.proofs.Common.{◌≡◌, ℕ, zero, suc, ◌+◌, ◌-◌, ◌*◌, ◌/◌, ◌%◌, ◌^◌, ◌<◌, ◌≤◌, min, Bool, true, false, cond, not, T, ltb, pos, neg_ℤ, sym, refl, ap, ◌∙◌, subst, mul-le-mul_right, mul_assoc, mul_comm, div-lt_iff_lt-mul, add-mul, add_comm, lt_of_mul-lt-mul_right, mul-pos, zero-mul, mul-one, mul_right_comm, arith, ltb-false, ltb-true, le-ltb}
use Prim.Native.Nat.{compare}
use native.Mathlib.Nat.{zero-div, mul-mul-mul_comm}
use lib.Dec.{eqb-suc-zero}
use lib.Ieee.{Float, nan, inf, fin, binary64, prec, emax, low, up, down, size, nearest, odd, units, round, sum, add, sub, mul, div, lt, neg, of_int, to_signed, to_unsigned, of_bits, to_bits, fits, is_nan}
use lib.Ieee.Back.{round_whole}
use lib.Ieee.Scale.{round_same}
use lib.Ieee.Exact.{HasValue}
use lib.Ieee.Fits.{down_pos}
use lib.Ieee.Positive.{positive}
use Rattle.arith.specs.Double.{◌⊕◌, ◌⊖◌, ◌⊗◌, ◌⊘◌, dbl, #0, #1, #2, #3, #5}
use Rattle.arith.specs.Truncation.{truncate, whole_part}
use Rattle.arith.specs.Choice.{abs, lesser, greater}
use Rattle.arith.proofs.Flags.{not_taken, not_left, cases}
use Rattle.arith.proofs.root.Cases.{positive_number}
use Rattle.arith.proofs.root.Pack.{bits_pos, bits_finite}

-- ---- truncation

-- the whole part of a double that is not below zero is the double truncated. (-0 is not below zero.)
pub truncate_whole : (x : Float) → lt x #0 ≡ false → truncate x ≡ pos (whole_part x)
unfolding lt to_signed to_unsigned of_bits
truncate_whole nan p = refl
truncate_whole (inf true) p = not_left p
truncate_whole (inf false) p = refl
truncate_whole (fin true m e) p =
    ap (λ (c : ℕ). neg_ℤ (pos (min c (2 ^ 31))))
    (ap (λ (a : ℕ). a / down e) (none (m * up e) (0 * 1 * down e) (rw (mul-one (m * up e)) at (ltb-false 0 (m * up e * 1 + 0 * 1 * down e) p))) ∙ zero-div (down e))
  where
    none : (a z : ℕ) → a + z ≤ 0 → a ≡ 0
    none a z l = omega arith
truncate_whole (fin false m e) p = refl

-- below zero the whole part is 0
pub whole_none : (x : Float) → lt x #0 ≡ true → 0 ≡ whole_part x
unfolding lt to_unsigned of_bits
whole_none nan p = not_taken p
whole_none (inf true) p = refl
whole_none (inf false) p = not_taken p
whole_none (fin true m e) p = refl
whole_none (fin false m e) p = absurd (past (m * up e * 1) (0 * 1 * down e) (zero-mul (down e)) (ltb-true (m * up e * 1) (0 * 1 * down e) p))
  where
    past : (a z : ℕ) → z ≡ 0 → a < z → ⊥
    past a z e l = omega arith

-- below a double that is the whole number b, the whole part is below b
pub whole_below : (x y : Float) (b : ℕ) → HasValue y false b 1 → 0 < b → lt x y ≡ true → whole_part x < b
unfolding lt to_unsigned
whole_below x nan b v B q = absurd v
whole_below x (inf s) b v B q = absurd v
whole_below nan (fin s n d) b v B q = not_taken q
whole_below (inf true) (fin s n d) b v B q = B
whole_below (inf false) (fin s n d) b v B q = not_taken q
whole_below (fin true m e) (fin s n d) b v B q = B
whole_below (fin false m e) (fin true n d) b v B q = not_left v.0
whole_below (fin false m e) (fin false n d) b v B q =
    small (m * up e / down e)
    ((div-lt_iff_lt-mul (down_pos e)).1 (lt_of_mul-lt-mul_right (down d) (subst (λ (z : ℕ). m * up e * down d < z) (over ∙ mul_right_comm b (down d) (down e)) (ltb-true (m * up e * down d) (n * up d * down e) q))))
  where
    over : n * up d * down e ≡ b * down d * down e
    over = ap (λ (z : ℕ). z * down e) (sym (mul-one (n * up d)) ∙ v.1)

    small : (c : ℕ) → c < b → min c (2 ^ 31 - 1) < b
    small c l = omega arith

-- the whole part has 31 binary digits at most
pub whole_most : (x : Float) → whole_part x < 2 ^ 31
unfolding to_unsigned
whole_most nan = omega arith
whole_most (inf true) = omega arith
whole_most (inf false) = omega arith
whole_most (fin true m e) = omega arith
whole_most (fin false m e) = small (m * up e / down e)
  where
    small : (c : ℕ) → min c (2 ^ 31 - 1) < 2 ^ 31
    small c = omega arith

-- ---- whole numbers

-- the small ones by their bits
pub one : #1 ≡ dbl 1
unfolding of_int of_bits
one = refl

pub two : #2 ≡ dbl 2
unfolding of_int of_bits
two = refl

pub three : #3 ≡ dbl 3
unfolding of_int of_bits
three = refl

pub five : #5 ≡ dbl 5
unfolding of_int of_bits
five = refl

-- two whole numbers' product is exact where a double holds each
pub dbl_product : (a b : ℕ) → a ≤ 2 ^ 53 → b ≤ 2 ^ 53 → dbl a ⊗ dbl b ≡ dbl (a * b)
unfolding of_int mul
dbl_product a b h k = product (round binary64 false a 1) (round binary64 false b 1) (round_whole binary64 false a h) (round_whole binary64 false b k)
  where
    product : (x y : Float) → HasValue x false a 1 → HasValue y false b 1 → x ⊗ y ≡ round binary64 false (a * b) 1
    product nan y p q = absurd p
    product (inf s) y p q = absurd p
    product (fin true m e) y p q = not_left p.0
    product (fin false m e) nan p q = absurd q
    product (fin false m e) (inf t) p q = absurd q
    product (fin false m e) (fin true n d) p q = not_left q.0
    product (fin false m e) (fin false n d) p q =
        round_same binary64 false (m * up e * (n * up d)) (down e * down d) (a * b) 1 (mul-pos (down_pos e) (down_pos d)) (omega arith)
        (mul-one (m * up e * (n * up d)) ∙ ap (λ (z : ℕ). z * (n * up d)) (sym (mul-one (m * up e)) ∙ p.1) ∙ ap (λ (z : ℕ). a * down e * z) (sym (mul-one (n * up d)) ∙ q.1) ∙ mul-mul-mul_comm a (down e) b (down d))

-- two fractions x / e and y / d, whose values are a and b, over the denominator e * d
over_product : (a b x y e d : ℕ) → x * 1 ≡ a * e → y * 1 ≡ b * d → (x * d ≡ a * (e * d)) × (y * e ≡ b * (e * d))
over_product a b x y e d p q = (
  ap (λ (z : ℕ). z * d) (sym (mul-one x) ∙ p) ∙ mul_assoc a e d,
  ap (λ (z : ℕ). z * e) (sym (mul-one y) ∙ q) ∙ mul_right_comm b d e ∙ mul_assoc b e d,
)

-- and so is their sum
pub dbl_sum : (a b : ℕ) → a ≤ 2 ^ 53 → b ≤ 2 ^ 53 → dbl a ⊕ dbl b ≡ dbl (a + b)
unfolding of_int add sum
dbl_sum a b h k = total (round binary64 false a 1) (round binary64 false b 1) (round_whole binary64 false a h) (round_whole binary64 false b k)
  where
    total : (x y : Float) → HasValue x false a 1 → HasValue y false b 1 → x ⊕ y ≡ round binary64 false (a + b) 1
    total nan y p q = absurd p
    total (inf s) y p q = absurd p
    total (fin true m e) y p q = not_left p.0
    total (fin false m e) nan p q = absurd q
    total (fin false m e) (inf t) p q = absurd q
    total (fin false m e) (fin true n d) p q = not_left q.0
    total (fin false m e) (fin false n d) p q =
        let v = over_product a b (m * up e) (n * up d) (down e) (down d) p.1 q.1 in
        round_same binary64 false (m * up e * down d + n * up d * down e) (down e * down d) (a + b) 1 (mul-pos (down_pos e) (down_pos d)) (omega arith)
        (mul-one _ ∙ rw (v.0, v.1, add-mul a b (down e * down d)))

-- and the difference, where it is not below zero
pub dbl_difference : (a b : ℕ) → a ≤ 2 ^ 53 → b ≤ a → dbl a ⊖ dbl b ≡ dbl (a - b)
unfolding of_int sub neg add sum
dbl_difference a b h k = rest (round binary64 false a 1) (round binary64 false b 1) (round_whole binary64 false a h) (round_whole binary64 false b (omega arith))
  where
    rest : (x y : Float) → HasValue x false a 1 → HasValue y false b 1 → x ⊖ y ≡ round binary64 false (a - b) 1
    rest nan y p q = absurd p
    rest (inf s) y p q = absurd p
    rest (fin true m e) y p q = not_left p.0
    rest (fin false m e) nan p q = absurd q
    rest (fin false m e) (inf t) p q = absurd q
    rest (fin false m e) (fin true n d) p q = not_left q.0
    rest (fin false m e) (fin false n d) p q =
        let v = over_product a b (m * up e) (n * up d) (down e) (down d) p.1 q.1 in
        let c = down e * down d in
        rw (v.0, v.1, le-ltb (a * c) (b * c) (mul-le-mul_right c k))
        (round_same binary64 false (a * c - b * c) c (a - b) 1 (mul-pos (down_pos e) (down_pos d)) (omega arith) (mul-one _ ∙ taken (a * c) (b * c) ((a - b) * c) (sym (add-mul (a - b) b c) ∙ ap (λ (z : ℕ). z * c) (back a b k))))
      where
        back : (a b : ℕ) → b ≤ a → a - b + b ≡ a
        back a b l = omega arith

        taken : (x y z : ℕ) → z + y ≡ x → x - y ≡ z
        taken x y z l = omega arith

-- their quotient is the double nearest to a / b
pub dbl_quotient : (a b : ℕ) → a ≤ 2 ^ 53 → b ≤ 2 ^ 53 → 0 < b → dbl a ⊘ dbl b ≡ round binary64 false a b
unfolding of_int div
dbl_quotient a b h k above = over (round binary64 false a 1) (round binary64 false b 1) (round_whole binary64 false a h) (round_whole binary64 false b k)
  where
    over : (x y : Float) → HasValue x false a 1 → HasValue y false b 1 → x ⊘ y ≡ round binary64 false a b
    over nan y p q = absurd p
    over (inf s) y p q = absurd p
    over (fin true m e) y p q = not_left p.0
    over (fin false m e) nan p q = absurd q
    over (fin false m e) (inf t) p q = absurd q
    over (fin false m e) (fin true n d) p q = not_left q.0
    over (fin false m e) (fin false zero d) p q = absurd (none (b * down d) (mul-pos above (down_pos d)) q.1)
      where
        none : (z : ℕ) → 0 < z → 0 * up d * 1 ≡ z → ⊥
        none z l e = omega arith
    over (fin false m e) (fin false (suc n) d) p q =
        rw (eqb-suc-zero n) (round_same binary64 false (m * up e * down d) (suc n * up d * down e) a b (some (suc n * up d) q.1) above
        (ap (λ (z : ℕ). z * down d * b) (sym (mul-one (m * up e)) ∙ p.1) ∙ apart (suc n * up d) (down d) (down e) q.1))
      where
        some : (y : ℕ) → y * 1 ≡ b * down d → 0 < y * down e
        some y e' = mul-pos (subst (λ (z : ℕ). 0 < z) (sym (sym (mul-one y) ∙ e')) (mul-pos above (down_pos d))) (down_pos e)

        apart : (y d e : ℕ) → y * 1 ≡ b * d → a * e * d * b ≡ a * (y * e)
        apart y d e v = ap (λ (z : ℕ). z * b) (mul_assoc a e d) ∙ mul_assoc a (e * d) b ∙ ap (λ (z : ℕ). a * z) (mul_comm (e * d) b ∙ ap (λ (z : ℕ). b * z) (mul_comm e d) ∙ sym (mul_assoc b d e) ∙ ap (λ (z : ℕ). z * e) (sym (sym (mul-one y) ∙ v)))

-- ---- what is rounded is no NaN
pub round_number : (s : Bool) (a b : ℕ) → is_nan (round binary64 s a b) ≡ false
unfolding is_nan round units
round_number s a b =
    let n = a * 2 ^ low binary64 in
    let k = size (n / b) - prec binary64 in
    let u = b * 2 ^ k in
    let q = nearest (n / u) (compare (n % u * 2) u) in
    go (ltb (q * 2 ^ k) (2 ^ (low binary64 + suc (emax binary64)))) q k
  where
    odd_number : (q k : ℕ) → is_nan (odd 54 s q k (low binary64)) ≡ false
    odd_number zero k = refl
    odd_number (suc q) k = refl

    go : (t : Bool) (q k : ℕ) → is_nan (cond t (odd 54 s q k (low binary64)) (inf s)) ≡ false
    go true q k = odd_number q k
    go false q k = refl

-- ---- choice
pub abs_neg : (x : Float) → abs (neg x) ≡ abs x
unfolding abs neg
abs_neg nan = refl
abs_neg (inf s) = refl
abs_neg (fin s m e) = refl

-- ---- a difference has one size, whichever of the two is subtracted
abs_odd : (d : ℕ) (s : Bool) (q k l : ℕ) → abs (odd d s q k l) ≡ odd d false q k l
unfolding abs odd
abs_odd d s zero k l = refl
abs_odd d s (suc q) k l = refl

pub abs_round : (s : Bool) (a b : ℕ) → abs (round binary64 s a b) ≡ round binary64 false a b
unfolding abs round units
abs_round s a b =
    let n = a * 2 ^ low binary64 in
    let k = size (n / b) - prec binary64 in
    let u = b * 2 ^ k in
    let q = nearest (n / u) (compare (n % u * 2) u) in
    go (ltb (q * 2 ^ k) (2 ^ (low binary64 + suc (emax binary64)))) q k
  where
    go : (t : Bool) (q k : ℕ) → abs (cond t (odd 54 s q k (low binary64)) (inf s)) ≡ cond t (odd 54 false q k (low binary64)) (inf false)
    go true q k = abs_odd 54 s q k (low binary64)
    go false q k = refl

abs_either : (s t u v : Bool) (a b c : ℕ)
    → abs (cond (ltb a b) (round binary64 s (b - a) c) (round binary64 t (a - b) c)) ≡ abs (cond (ltb b a) (round binary64 u (a - b) c) (round binary64 v (b - a) c))
abs_either s t u v a b c = go (ltb a b) (ltb b a) refl refl
  where
    go : (x y : Bool) → ltb a b ≡ x → ltb b a ≡ y
        → abs (cond x (round binary64 s (b - a) c) (round binary64 t (a - b) c)) ≡ abs (cond y (round binary64 u (a - b) c) (round binary64 v (b - a) c))
    go true true h k = let l = ltb-true a b h in let r = ltb-true b a k in absurd (omega arith)
    go true false h k = abs_round s (b - a) c ∙ sym (abs_round v (b - a) c)
    go false true h k = abs_round t (a - b) c ∙ sym (abs_round u (a - b) c)
    go false false h k =
        let l = ltb-false a b h in
        let r = ltb-false b a k in
        let e : a - b ≡ b - a = omega arith in
        abs_round t (a - b) c ∙ ap (λ (n : ℕ). round binary64 false n c) e ∙ sym (abs_round v (b - a) c)

abs_sum : (s t : Bool) (a b c : ℕ) → abs (sum binary64 s a (not t) b c) ≡ abs (sum binary64 t b (not s) a c)
unfolding sum
abs_sum true false a b c = abs_round true (a + b) c ∙ ap (λ (n : ℕ). round binary64 false n c) (add_comm a b) ∙ sym (abs_round false (b + a) c)
abs_sum false true a b c = abs_round false (a + b) c ∙ ap (λ (n : ℕ). round binary64 false n c) (add_comm a b) ∙ sym (abs_round true (b + a) c)
abs_sum true true a b c = abs_either false (ltb b a) false (ltb a b) a b c
abs_sum false false a b c = abs_either true false true false a b c

pub abs_difference : (x y : Float) → abs (x ⊖ y) ≡ abs (y ⊖ x)
unfolding sub add abs neg
abs_difference nan nan = refl
abs_difference nan (inf t) = refl
abs_difference nan (fin t n d) = refl
abs_difference (inf s) nan = refl
abs_difference (inf true) (inf true) = refl
abs_difference (inf true) (inf false) = refl
abs_difference (inf false) (inf true) = refl
abs_difference (inf false) (inf false) = refl
abs_difference (inf s) (fin t n d) = refl
abs_difference (fin s m e) nan = refl
abs_difference (fin s m e) (inf t) = refl
abs_difference (fin s m e) (fin t n d) = ap (λ (c : ℕ). abs (sum binary64 s (m * up e * down d) (not t) (n * up d * down e) c)) (mul_comm (down e) (down d)) ∙ abs_sum s t (m * up e * down d) (n * up d * down e) (down d * down e)

-- ---- the lesser and the greater: what holds of both doubles holds of either
pub lesser_one : (P : Float → Type 0) (a b : Float) → P a → P b → P (lesser a b)
unfolding lesser
lesser_one P a b f g = cases P (lt b a) b a (λ _. g) (λ _. f)

pub greater_one : (P : Float → Type 0) (a b : Float) → P a → P b → P (greater a b)
unfolding greater
greater_one P a b f g = cases P (lt a b) b a (λ _. g) (λ _. f)

-- ---- the bits of a finite double above zero, for the callers of `scale`
pub number_above_zero : (x : Float) → T (positive x) → T (not (is_nan x))
number_above_zero x p = positive_number x p

pub bits_above_zero : (x : Float) → T (fits binary64 x) → T (positive x) → 0 < to_bits binary64 x
bits_above_zero x f p = bits_pos x f p

pub bits_below_infinity : (x : Float) → T (fits binary64 x) → T (positive x) → to_bits binary64 x < 2047 * 2 ^ 52
bits_below_infinity x f p = bits_finite x f p

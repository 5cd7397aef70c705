-- What the comparisons of a double with zero and infinity tell of it: which clause of `sqrt` applies. Assumes nothing.
use Rattle.std.proofs.Common.{◌≡◌, ℕ, zero, suc, ◌+◌, ◌*◌, ◌<◌, ◌≤◌, true, false, not, T, ltb, ℤ, refl, ap, zero-lt-suc, mul-pos, zero-mul, arith, lt→ltb, ltb-false, ltb-true}
use lib.Ieee.{Float, nan, inf, fin, up, down, lt, is_nan, of_bits}
use lib.Ieee.Fits.{up_pos}
use lib.Ieee.Positive.{num, den, positive}
use Rattle.arith.specs.Double.{#0}
use Rattle.arith.specs.Root.{rounded_root, sqrt}
use Rattle.arith.proofs.Flags.{not_taken, not_left}

-- ---- comparisons of m * 2 ^ e with zero, as they compute: zero is 0 * 1 * down e on the other side
zero_right : (e : ℤ) → 0 * 1 * down e ≡ 0
zero_right e = zero-mul (down e)

suc_left : (m : ℕ) (e : ℤ) → 0 < suc m * up e * 1
suc_left m e = mul-pos (mul-pos (zero-lt-suc m) (up_pos e)) (zero-lt-suc 0)

zero_left : (u : ℕ) → 0 * u * 1 ≡ 0
zero_left u = ap (λ (x : ℕ). x * 1) (zero-mul u)

-- nothing is below zero
none_below : {X : Type 0} (a z : ℕ) → z ≡ 0 → ltb a z ≡ true → X
none_below a z e h = absurd (no_less (ltb-true a z h))
  where
    no_less : a < z → ⊥
    no_less l = omega arith

-- a number above zero is not at most zero
some_above : {X : Type 0} (a z : ℕ) → z ≡ 0 → 0 < a → ltb z a ≡ false → X
some_above a z e p h = absurd (no_less (ltb-false z a h))
  where
    no_less : a ≤ z → ⊥
    no_less l = omega arith

-- ---- the cases of `sqrt`
pub finite_above_zero : (x : Float) → lt #0 x ≡ true → lt x (inf false) ≡ true → T (positive x)
unfolding lt of_bits
finite_above_zero nan p q = not_taken p
finite_above_zero (inf true) p q = not_taken p
finite_above_zero (inf false) p q = not_taken q
finite_above_zero (fin true m e) p q = not_taken p
finite_above_zero (fin false zero e) p q = none_below (0 * 1 * down e) (0 * up e * 1) (zero_left (up e)) p
finite_above_zero (fin false (suc m) e) p q = lt→ltb 0 (suc m) (zero-lt-suc m)

pub sqrt_infinite : (x : Float) → lt #0 x ≡ true → lt x (inf false) ≡ false → x ≡ sqrt x
unfolding lt sqrt of_bits
sqrt_infinite nan p q = not_taken p
sqrt_infinite (inf true) p q = not_taken p
sqrt_infinite (inf false) p q = refl
sqrt_infinite (fin s m e) p q = not_left q

pub sqrt_below_zero : (x : Float) → lt x #0 ≡ true → nan ≡ sqrt x
unfolding lt sqrt of_bits
sqrt_below_zero nan p = not_taken p
sqrt_below_zero (inf true) p = refl
sqrt_below_zero (inf false) p = not_taken p
sqrt_below_zero (fin true zero e) p = none_below 0 (0 * up e * 1 + 0 * 1 * down e) (sum_zero (zero_left (up e)) (zero_right e)) p
  where
    sum_zero : {a b : ℕ} → a ≡ 0 → b ≡ 0 → a + b ≡ 0
    sum_zero p q = omega arith
sqrt_below_zero (fin true (suc m) e) p = refl
sqrt_below_zero (fin false m e) p = none_below (m * up e * 1) (0 * 1 * down e) (zero_right e) p

-- a zero or no number
pub sqrt_else : (x : Float) → lt #0 x ≡ false → lt x #0 ≡ false → x ≡ sqrt x
unfolding lt sqrt of_bits
sqrt_else nan p q = refl
sqrt_else (inf true) p q = not_left q
sqrt_else (inf false) p q = not_left p
sqrt_else (fin s zero e) p q = refl
sqrt_else (fin false (suc m) e) p q = some_above (suc m * up e * 1) (0 * 1 * down e) (zero_right e) (suc_left m e) p
sqrt_else (fin true (suc m) e) p q = some_above (suc m * up e * 1 + 0 * 1 * down e) 0 refl (more (0 * 1 * down e) (suc_left m e)) q
  where
    more : {a : ℕ} (b : ℕ) → 0 < a → 0 < a + b
    more b p = omega arith

-- ---- of a double that is finite and above zero
pub sqrt_positive : (x : Float) → T (positive x) → sqrt x ≡ rounded_root (num x) (den x)
unfolding sqrt
sqrt_positive nan p = absurd p
sqrt_positive (inf s) p = absurd p
sqrt_positive (fin true m e) p = absurd p
sqrt_positive (fin false zero e) p = absurd p
sqrt_positive (fin false (suc m) e) p = refl

pub positive_number : (x : Float) → T (positive x) → T (not (is_nan x))
unfolding is_nan
positive_number nan p = absurd p
positive_number (inf s) p = absurd p
positive_number (fin s m e) p = tt

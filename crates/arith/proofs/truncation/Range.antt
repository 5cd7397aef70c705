-- A double cut to a whole number, by its comparisons with the ends of an `i32`. Assumes nothing.
use Rattle.std.proofs.Common.{◌≡◌, ℕ, ◌+◌, ◌-◌, ◌*◌, ◌/◌, ◌^◌, ◌<◌, ◌≤◌, min, Bool, true, false, ◌||◌, T, ltb, pos, negsuc, neg_ℤ, refl, ap, div-lt_iff_lt-mul, mul-pos, le-div_iff_mul-le, mul-one, arith, lt→ltb, pow_pos, ltb-false, ltb-true}
use lib.Ieee.{Float, nan, inf, fin, up, down, lt, le, eq, to_signed}
use lib.Ieee.Fits.{down_pos}
use Rattle.arith.specs.Truncation.{truncate}
use Rattle.arith.proofs.Flags.{not_taken, not_left, not_both}

-- 2 ^ h, the first number past a signed range, and -2 ^ h, the range's least
abbrev pub end : ℕ → Float
end h = fin false 1 (pos h)

abbrev pub start : ℕ → Float
start h = fin true 1 (pos h)

-- ---- whether a / b is below 2 ^ 31, as the comparison of a double's size with 2 ^ 31 computes
below : (a b : ℕ) → 0 < b → ltb (a * 1) (2 ^ 31 * b) ≡ true → a / b < 2 ^ 31
below a b p h = (div-lt_iff_lt-mul p).1 (rw mul-one at (ltb-true (a * 1) (2 ^ 31 * b) h))

beyond : (a b : ℕ) → 0 < b → ltb (a * 1) (2 ^ 31 * b) ≡ false → 2 ^ 31 ≤ a / b
beyond a b p h = (le-div_iff_mul-le p).1 (rw mul-one at (ltb-false (a * 1) (2 ^ 31 * b) h))

below_wider : (a b : ℕ) → 0 < b → ltb (a * 1) (2 ^ 31 * b) ≡ true → T (ltb (a * 1) (2 ^ 63 * b))
below_wider a b p h = lt→ltb (a * 1) (2 ^ 63 * b) (wider (a * 1) (ltb-true (a * 1) (2 ^ 31 * b) h))
  where
    wider : (x : ℕ) → x < 2 ^ 31 * b → x < 2 ^ 63 * b
    wider x q = omega arith

-- a sum with the end of a range is above zero
some_end : (a b w : ℕ) → 0 < b → T (ltb 0 (a + 2 ^ w * b)) × T (ltb 0 (2 ^ w * b + a))
some_end a b w p = (lt→ltb 0 (a + 2 ^ w * b) (left (2 ^ w * b) (mul-pos (pow_pos w) p)), lt→ltb 0 (2 ^ w * b + a) (right (2 ^ w * b) (mul-pos (pow_pos w) p)))
  where
    left : (x : ℕ) → 0 < x → 0 < a + x
    left x q = omega arith

    right : (x : ℕ) → 0 < x → 0 < x + a
    right x q = omega arith

or_left : (a b : Bool) → T a → T (a || b)
or_left true b t = tt
or_left false b t = absurd t

-- ---- in range: an `i64` holds the whole part, and it is the same
pub in_range : (x : Float) → lt x (end 31) ≡ true → lt (start 31) x ≡ true → to_signed 63 x ≡ truncate x
unfolding lt to_signed
in_range nan p q = not_taken p
in_range (inf true) p q = not_taken q
in_range (inf false) p q = not_taken p
in_range (fin true m e) p q = ap (λ (c : ℕ). neg_ℤ (pos c)) (go (m * up e / down e) (below (m * up e) (down e) (down_pos e) q))
  where
    go : (c : ℕ) → c < 2 ^ 31 → min c (2 ^ 63) ≡ min c (2 ^ 31)
    go c h = omega arith
in_range (fin false m e) p q = ap pos (go (m * up e / down e) (below (m * up e) (down e) (down_pos e) p))
  where
    go : (c : ℕ) → c < 2 ^ 31 → min c (2 ^ 63 - 1) ≡ min c (2 ^ 31 - 1)
    go c h = omega arith

pub in_wider : (x : Float) → lt x (end 31) ≡ true → lt (start 31) x ≡ true → T (le (start 63) x) × T (lt x (end 63))
unfolding le lt eq
in_wider nan p q = not_taken p
in_wider (inf true) p q = not_taken q
in_wider (inf false) p q = not_taken p
in_wider (fin true m e) p q = (or_left (ltb (m * up e * 1) (2 ^ 63 * down e)) _ (below_wider (m * up e) (down e) (down_pos e) q), (some_end (m * up e * 1) (down e) 63 (down_pos e)).0)
in_wider (fin false m e) p q = (or_left (ltb 0 (2 ^ 63 * down e + m * up e * 1)) _ (some_end (m * up e * 1) (down e) 63 (down_pos e)).1, below_wider (m * up e) (down e) (down_pos e) p)

-- ---- out of range
pub below_range : (x : Float) → lt x (end 31) ≡ true → lt (start 31) x ≡ false → negsuc 2147483647 ≡ truncate x
unfolding lt to_signed
below_range nan p q = not_taken p
below_range (inf true) p q = refl
below_range (inf false) p q = not_taken p
below_range (fin true m e) p q = ap (λ (c : ℕ). neg_ℤ (pos c)) (go (m * up e / down e) (beyond (m * up e) (down e) (down_pos e) q))
  where
    go : (c : ℕ) → 2 ^ 31 ≤ c → 2 ^ 31 ≡ min c (2 ^ 31)
    go c h = omega arith
below_range (fin false m e) p q = not_both (ltb 0 (2 ^ 31 * down e + m * up e * 1)) q (some_end (m * up e * 1) (down e) 31 (down_pos e)).1

pub above_range : (x : Float) → lt x (end 31) ≡ false → eq x x ≡ true → pos 2147483647 ≡ truncate x
unfolding lt eq to_signed
above_range nan p q = not_taken q
above_range (inf true) p q = not_left p
above_range (inf false) p q = refl
above_range (fin true m e) p q = not_both (ltb 0 (m * up e * 1 + 2 ^ 31 * down e)) p (some_end (m * up e * 1) (down e) 31 (down_pos e)).0
above_range (fin false m e) p q = ap pos (go (m * up e / down e) (beyond (m * up e) (down e) (down_pos e) p))
  where
    go : (c : ℕ) → 2 ^ 31 ≤ c → 2 ^ 31 - 1 ≡ min c (2 ^ 31 - 1)
    go c h = omega arith

pub truncate_nan : pos 0 ≡ truncate nan
unfolding to_signed
truncate_nan = refl

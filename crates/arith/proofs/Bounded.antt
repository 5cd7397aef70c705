-- Doubles that are finite and at most 2 ^ k in size: what products, sums, halves and roots make of such bounds. Assumes nothing.
use Rattle.std.proofs.Common.{◌≡◌, ℕ, zero, suc, ◌+◌, ◌-◌, ◌*◌, ◌^◌, ◌<◌, ◌≤◌, Bool, true, false, cond, T, ltb, pos, sym, refl, ap, ◌∙◌, subst, zero-le, le_trans, le_of_eq, lt_of_lt_of_le, le_of_lt, lt_irrefl, mul-le-mul_right, zero-lt-suc, mul_assoc, mul_comm, mul-le-mul, mul-le-mul_left, mul-pos, one-mul, pow-suc, lt_of_not-le, mul-one, mul_right_comm, mul_left_comm, arith, lt→ltb, pow_pos, pow_mono, pow-add, ltb-false, ltb-true}
use native.Mathlib.Nat.{mul-mul-mul_comm}
use native.Mathlib.Decide.{dec_le}
use lib.Pow.{pow-lt}
use lib.Ieee.{Float, nan, inf, fin, binary64, unlike, up, down, round, sum, add, sub, mul, div, neg, lt, le, of_int, of_bits, fits}
use lib.Ieee.Exact.{HasValue, round_exact}
use lib.Ieee.Fits.{down_pos}
use lib.Ieee.Order.{round_mono}
use lib.Ieee.Positive.{num, den, positive, positive_of_value, own_value, values_of_le, above, above_of_le}
use Rattle.arith.specs.Double.{◌⊕◌, ◌⊖◌, ◌⊗◌, ◌⊘◌, dbl, #0, #2}
use Rattle.arith.specs.Choice.{abs}
use Rattle.arith.specs.Root.{sqrt}
use Rattle.arith.specs.NearestRoot.{NearestRoot}
use Rattle.arith.proofs.Flags.{not_taken, not_left}
use Rattle.arith.proofs.Laws.{abs_round}
use Rattle.arith.proofs.Unsigned.{Unsigned, round_signed}
use Rattle.arith.proofs.root.Nearest.{sqrt_nearest}

-- finite, and at most 2 ^ k in size
abbrev pub Bounded : ℕ → Float → Type 0
Bounded k nan = ⊥
Bounded k (inf s) = ⊥
Bounded k (fin s m e) = m * up e ≤ 2 ^ k * down e

pub zero_bounded : (k : ℕ) → Bounded k #0
unfolding of_bits
zero_bounded k = zero-le

pub bounded_more : (j k : ℕ) (x : Float) → j ≤ k → Bounded j x → Bounded k x
bounded_more j k nan l h = absurd h
bounded_more j k (inf s) l h = absurd h
bounded_more j k (fin s m e) l h = le_trans h (mul-le-mul_right (down e) (pow_mono l))

pub bounded_abs : (k : ℕ) (x : Float) → Bounded k x → Bounded k (abs x)
unfolding abs
bounded_abs k nan h = absurd h
bounded_abs k (inf s) h = absurd h
bounded_abs k (fin s m e) h = h

bounded_neg : (k : ℕ) (x : Float) → Bounded k x → Bounded k (neg x)
unfolding neg
bounded_neg k nan h = absurd h
bounded_neg k (inf s) h = absurd h
bounded_neg k (fin s m e) h = h

-- ---- what is rounded

power_value : (k : ℕ) → k ≤ 1023 → HasValue (round binary64 false (2 ^ k) 1) false (2 ^ k) 1
power_value k h =
    round_exact binary64 false (2 ^ k) 1 1 (k + 1074) (omega arith) (pow-lt {i = 0} {j = 53} (omega arith))
    (subst (λ (x : ℕ). x < 2 ^ 2098) (sym (one-mul (2 ^ (k + 1074)))) (pow-lt {i = k + 1074} {j = 2098} (omega arith)))
    (sym (pow-add 2 k 1074) ∙ sym (mul-one (1 * 2 ^ (k + 1074)) ∙ one-mul (2 ^ (k + 1074))))

-- at most 2 ^ k, by the comparison of doubles
under_power : (k : ℕ) (x y : Float) → Unsigned x → T (le x y) → HasValue y false (2 ^ k) 1 → Bounded k x
unfolding le
under_power k nan y s h v = absurd h
under_power k (inf true) y s h v = not_left s
under_power k (inf false) nan s h v = absurd v
under_power k (inf false) (inf t) s h v = absurd v
under_power k (inf false) (fin t n d) s h v = absurd h
under_power k (fin true m e) y s h v = not_left s
under_power k (fin false zero e) y s h v = omega arith
under_power k (fin false (suc m) e) y s h v =
    le_trans (le_of_eq (sym (mul-one (suc m * up e))))
    (values_of_le (fin false (suc m) e) y (suc m * up e) (down e) (2 ^ k) 1 (lt→ltb 0 (suc m) (zero-lt-suc m)) (positive_of_value y (2 ^ k) 1 v (pow_pos k)) (refl, refl) v h)

pub round_bounded : (k : ℕ) (s : Bool) (a b : ℕ) → k ≤ 1023 → 0 < b → a ≤ 2 ^ k * b → Bounded k (round binary64 s a b)
unfolding abs
round_bounded k s a b K B h =
    of_abs (round binary64 s a b) (rw (abs_round s a b)
    (under_power k (round binary64 false a b) (round binary64 false (2 ^ k) 1) (round_signed binary64 false a b)
    (round_mono binary64 a b (2 ^ k) 1 B (omega arith) (le_trans (le_of_eq (mul-one a)) h)) (power_value k K)))
  where
    of_abs : (x : Float) → Bounded k (abs x) → Bounded k x
    of_abs nan h = absurd h
    of_abs (inf s) h = absurd h
    of_abs (fin s m e) h = h

pub dbl_bounded : (k n : ℕ) → k ≤ 1023 → n ≤ 2 ^ k → Bounded k (dbl n)
unfolding of_int
dbl_bounded k n K h = round_bounded k false n 1 K (omega arith) (le_trans h (le_of_eq (sym (mul-one (2 ^ k)))))

-- ---- a product, a sum, a difference and a half

pub mul_bounded : (j k : ℕ) (x y : Float) → j + k ≤ 1023 → Bounded j x → Bounded k y → Bounded (j + k) (x ⊗ y)
unfolding mul
mul_bounded j k nan y K h g = absurd h
mul_bounded j k (inf s) y K h g = absurd h
mul_bounded j k (fin s m e) nan K h g = absurd g
mul_bounded j k (fin s m e) (inf t) K h g = absurd g
mul_bounded j k (fin s m e) (fin t n d) K h g =
    round_bounded (j + k) (unlike s t) (m * up e * (n * up d)) (down e * down d) K (mul-pos (down_pos e) (down_pos d))
    (le_trans (mul-le-mul h g) (le_of_eq (mul-mul-mul_comm (2 ^ j) (down e) (2 ^ k) (down d) ∙ ap (λ (z : ℕ). z * (down e * down d)) (sym (pow-add 2 j k)))))

sum_bounded : (k : ℕ) (s : Bool) (a : ℕ) (t : Bool) (b c : ℕ) → k ≤ 1023 → 0 < c → a + b ≤ 2 ^ k * c → Bounded k (sum binary64 s a t b c)
unfolding sum
sum_bounded k s a t b c K C h = go s t
  where
    part : (x y z : ℕ) → x + y ≤ z → (x - y ≤ z) × (y - x ≤ z)
    part x y z l = (omega arith, omega arith)

    apart : (x u v : Bool) → Bounded k (cond x (round binary64 u (b - a) c) (round binary64 v (a - b) c))
    apart true u v = round_bounded k u (b - a) c K C (part a b (2 ^ k * c) h).1
    apart false u v = round_bounded k v (a - b) c K C (part a b (2 ^ k * c) h).0

    go : (s t : Bool) → Bounded k (sum binary64 s a t b c)
    go true true = round_bounded k true (a + b) c K C h
    go false false = round_bounded k false (a + b) c K C h
    go true false = apart (ltb a b) false (ltb b a)
    go false true = apart (ltb a b) true false

pub add_bounded : (k : ℕ) (x y : Float) → k < 1023 → Bounded k x → Bounded k y → Bounded (suc k) (x ⊕ y)
unfolding add
add_bounded k nan y K h g = absurd h
add_bounded k (inf s) y K h g = absurd h
add_bounded k (fin s m e) nan K h g = absurd g
add_bounded k (fin s m e) (inf t) K h g = absurd g
add_bounded k (fin s m e) (fin t n d) K h g =
    let c = down e * down d in
    sum_bounded (suc k) s (m * up e * down d) t (n * up d * down e) c K (mul-pos (down_pos e) (down_pos d))
    (twice (2 ^ k * c) (le_trans (mul-le-mul_right (down d) h) (le_of_eq (mul_assoc (2 ^ k) (down e) (down d))))
    (le_trans (mul-le-mul_right (down e) g) (le_of_eq (mul_right_comm (2 ^ k) (down d) (down e) ∙ mul_assoc (2 ^ k) (down e) (down d))))
    (ap (λ (z : ℕ). z * c) (pow-suc 2 k) ∙ mul_right_comm (2 ^ k) 2 c))
  where
    twice : {a b q : ℕ} (p : ℕ) → a ≤ p → b ≤ p → q ≡ p * 2 → a + b ≤ q
    twice p u v w = omega arith

pub sub_bounded : (k : ℕ) (x y : Float) → k < 1023 → Bounded k x → Bounded k y → Bounded (suc k) (x ⊖ y)
unfolding sub
sub_bounded k x y K h g = add_bounded k x (neg y) K h (bounded_neg k y g)

-- by which the midpoint of two doubles keeps their bound
pub half_bounded : (k : ℕ) (x : Float) → k ≤ 1023 → Bounded (suc k) x → Bounded k (x ⊘ #2)
unfolding div of_bits
half_bounded k nan K h = absurd h
half_bounded k (inf s) K h = absurd h
half_bounded k (fin s m e) K h =
    round_bounded k (unlike s false) (m * up e * 1) (1 * 2 * down e) K (mul-pos {m = 2} (omega arith) (down_pos e))
    (le_trans (le_of_eq (mul-one (m * up e))) (le_trans h (le_of_eq (ap (λ (z : ℕ). z * down e) (pow-suc 2 k) ∙ mul_assoc (2 ^ k) 2 (down e)))))

-- ---- a term of a sum, by what the sum is below

-- what is at least 2 ^ k is not below a b of at most 2 ^ k
not_below : (k b : ℕ) (w x z : Float) → b ≤ 2 ^ k → HasValue w false (2 ^ k) 1 → T (le w x) → HasValue z false b 1 → lt x z ≡ true → ⊥
unfolding lt
not_below k b w x z B p h v l = go x z (above_of_le w x w_positive h) (λ q. values_of_le w x (2 ^ k) 1 (num x) (den x) w_positive q p (own_value x q) h) v l
  where
    w_positive : T (positive w)
    w_positive = positive_of_value w (2 ^ k) 1 p (pow_pos k)

    go : (x z : Float) → T (above x) → (T (positive x) → 2 ^ k * den x ≤ num x * 1) → HasValue z false b 1 → lt x z ≡ true → ⊥
    go x nan a c v l = absurd v
    go x (inf t) a c v l = absurd v
    go x (fin true n d) a c v l = not_left v.0
    go nan (fin false n d) a c v l = absurd a
    go (inf true) (fin false n d) a c v l = absurd a
    go (inf false) (fin false n d) a c v l = not_taken l
    go (fin true m e) (fin false n d) a c v l = absurd a
    go (fin false m e) (fin false n d) a c v l =
        lt_irrefl (m * up e * down d)
        (lt_of_lt_of_le (ltb-true (m * up e * down d) (n * up d * down e) l)
        (le_trans (le_of_eq (ap (λ (z : ℕ). z * down e) (sym (mul-one (n * up d)) ∙ v.1) ∙ mul_right_comm b (down d) (down e)))
        (le_trans (mul-le-mul_right (down d) (mul-le-mul_right (down e) B))
        (mul-le-mul_right (down d) (le_trans (c a) (le_of_eq (mul-one (m * up e))))))))

-- y, where the sum of x and y, neither of them below zero, is below a whole number b of at most 2 ^ k
pub term_bounded : (k b : ℕ) (x y z : Float) → k ≤ 1023 → b ≤ 2 ^ k → Unsigned x → Bounded k x → lt y #0 ≡ false → HasValue z false b 1 → lt (x ⊕ y) z ≡ true → Bounded k y
unfolding lt add sum of_bits
term_bounded k b nan y z K B u h p v l = absurd h
term_bounded k b (inf s) y z K B u h p v l = absurd h
term_bounded k b (fin true m e) y z K B u h p v l = not_left u
term_bounded k b (fin false m e) nan z K B u h p v l = not_taken l
term_bounded k b (fin false m e) (inf true) z K B u h p v l = not_left p
term_bounded k b (fin false m e) (inf false) nan K B u h p v l = absurd v
term_bounded k b (fin false m e) (inf false) (inf t) K B u h p v l = absurd v
term_bounded k b (fin false m e) (inf false) (fin t n d) K B u h p v l = not_taken l
term_bounded k b (fin false m e) (fin true n d) z K B u h p v l = none (n * up d) (0 * 1 * down d) (ltb-false 0 (n * up d * 1 + 0 * 1 * down d) p)
  where
    none : (a b : ℕ) → a * 1 + b ≤ 0 → a ≤ 2 ^ k * down d
    none a b l = omega arith
term_bounded k b (fin false m e) (fin false n d) z K B u h p v l = go (dec_le (n * up d) (2 ^ k * down d))
  where
    more : {a b c : ℕ} (x : ℕ) → a ≤ b → c ≡ x + b → a ≤ c * 1
    more x l e = omega arith

    c : ℕ
    c = down e * down d

    a : ℕ
    a = m * up e * down d + n * up d * down e

    go : Dec (n * up d ≤ 2 ^ k * down d) → n * up d ≤ 2 ^ k * down d
    go (yes q) = q
    go (no q) =
        absurd (not_below k b (round binary64 false (2 ^ k) 1) (round binary64 false a c) z B (power_value k K)
        (round_mono binary64 (2 ^ k) 1 a c (omega arith) (mul-pos (down_pos e) (down_pos d))
        (more (m * up e * down d)
        (le_trans (le_of_eq (sym (mul_assoc (2 ^ k) (down e) (down d)) ∙ mul_right_comm (2 ^ k) (down e) (down d))) (mul-le-mul_right (down e) (le_of_lt (lt_of_not-le q)))) refl))
        v l)

-- ---- a square root

-- for an a / b above p, and an x / e of at most p², the square of a / b + p is not below 4 x / e
far_root : (p a b x e : ℕ) → p * b < a → x ≤ p * p * e → (a * 1 + 1 * p * b) * (a * 1 + 1 * p * b) * e < 4 * x * (b * 1 * (b * 1)) → ⊥
far_root p a b x e h k l =
    let s = a * 1 + 1 * p * b in
    let low : 2 * (p * b) ≤ s = least (p * b) (ap (λ (z : ℕ). z * b) (one-mul p)) h in
    lt_irrefl (s * s * e)
    (lt_of_lt_of_le l
    (le_trans (mul-le-mul_right (b * 1 * (b * 1)) (mul-le-mul_left 4 k))
    (le_trans (le_of_eq same) (mul-le-mul_right e (mul-le-mul low low)))))
  where
    least : {q : ℕ} (z : ℕ) → q ≡ z → z < a → 2 * z ≤ a * 1 + q
    least z e l = omega arith

    same : 4 * (p * p * e) * (b * 1 * (b * 1)) ≡ 2 * (p * b) * (2 * (p * b)) * e
    same =
        ap (λ (z : ℕ). 4 * (p * p * e) * (z * z)) (mul-one b)
        ∙ simp (mul_assoc, mul_comm, mul_left_comm) (mul_assoc 2 2 (p * (p * (b * (b * e)))))

-- the root of at most 2 ^ (2 k) is at most 2 ^ k
pub root_bounded : (k : ℕ) (x : Float) → T (fits binary64 (fin false 1 (pos k))) → T (fits binary64 x) → Unsigned x → Bounded (k + k) x → Bounded k (sqrt x)
unfolding sqrt lt
root_bounded k nan y f u h = absurd h
root_bounded k (inf s) y f u h = absurd h
root_bounded k (fin true m e) y f u h = not_left u
root_bounded k (fin false zero e) y f u h = omega arith
root_bounded k (fin false (suc m) e) y f u h = go (sqrt (fin false (suc m) e)) (sqrt_nearest (fin false (suc m) e) f (lt→ltb 0 (suc m) (zero-lt-suc m)))
  where
    go : (r : Float) → NearestRoot (fin false (suc m) e) r → Bounded k r
    go nan r = absurd r.above_zero
    go (inf s) r = absurd r.above_zero
    go (fin true n d) r = absurd r.above_zero
    go (fin false n d) r = within (dec_le (n * up d) (2 ^ k * down d))
      where
        by_ones : 2 ^ k * down d < n * up d → 1 * 2 ^ k * down d < n * up d * 1
        by_ones l = rw (one-mul (2 ^ k), mul-one (n * up d)) l

        within : Dec (n * up d ≤ 2 ^ k * down d) → n * up d ≤ 2 ^ k * down d
        within (yes q) = q
        within (no q) =
            let far : 2 ^ k * down d < n * up d = lt_of_not-le q in
            absurd (far_root (2 ^ k) (n * up d) (down d) (suc m * up e) (down e) far (le_trans h (le_of_eq (ap (λ (z : ℕ). z * down e) (pow-add 2 k k))))
            (r.than_less (fin false 1 (pos k)) y tt (lt→ltb (1 * 2 ^ k * down d) (n * up d * 1) (by_ones far))))

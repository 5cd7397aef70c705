-- A double from 1 to 200 times 2 ^ 52, as a whole number. Assumes nothing.
use mathlib.Core.Path.{◌≡◌, refl, sym, ap, ◌∙◌, subst}
use mathlib.Core.Bool.{Bool, true, false, not, ◌&&◌, ◌||◌, true≢false}
use Prim.Native.Nat.{ℕ, zero, suc, ◌+◌, ◌-◌, ◌*◌, ◌%◌, ◌^◌, ◌≤◌, ◌<◌, zero-le}
use native.Mathlib.Nat.{le_trans, le_of_eq, le_of_lt, lt_irrefl, lt_of_lt_of_le, lt_of_le_of_lt, lt_of_not-le, mul_comm, mul_assoc, mul_right_comm, mul_left_comm, mul-le-mul_right, le_of_mul-le-mul_right, mul-pos, one-mul, mul-one, zero-mul, eq_of_mul-eq-mul_right, mod-eq_of_lt, zero-lt-suc, lt_of_mul-lt-mul_right, mul-lt-mul_of_pos_right, eq-or-lt_of_le}
use native.Mathlib.Decide.{dec_le}
use native.Mathlib.Omega.{arith}
use lib.IntN.{ℤ, pos}
use lib.Dec.{T, eqb, eqb→eq, eqb_refl, ltb, ltb→lt, lt→ltb, leb→le}
use mathlib.Core.Logic.{inl, inr}
use lib.Pow.{pow-add, pow_pos, pow_mono, shl_lt}
use lib.Ieee.{Float, nan, inf, fin, up, down, lt, le, eq, binary64, of_bits}
use lib.Ieee.Fits.{up_pos, down_pos, and_l}
use lib.Ieee.Positive.{num, den, positive, between, le→cross}
use Rattle.circle.proofs.fixed.Zero.{Whole, apart_from, side}
use Rattle.sines.specs.Inside.Small.{IsSplit}
use borrow.Author.Tests.{ltb-false}

pub positive_of : (x : Float) → T (le (fin false 1 (pos 0)) x) → T (le x (fin false 25 (pos 3))) → T (positive x)
positive_of x h k = between (fin false 1 (pos 0)) x (fin false 25 (pos 3)) tt tt h k

pub over_zero : (x : Float) → T (positive x) → T (lt (fin false 0 (pos 0)) x)
unfolding lt
over_zero nan p = absurd p
over_zero (inf s) p = absurd p
over_zero (fin true m e) p = absurd p
over_zero (fin false m e) p = lt→ltb (0 * 1 * down e) (m * up e * 1) (subst (λ (z : ℕ). z < m * up e * 1) (sym (zero-mul (down e))) (mul-pos (mul-pos (ltb→lt 0 m p) (up_pos e)) (zero-lt-suc 0)))

pub at_least : (x : Float) → T (le (fin false 1 (pos 0)) x) → T (positive x) → den x ≤ num x
at_least x h p = le_trans (le_of_eq (sym (one-mul (den x)))) (le_trans (le→cross (fin false 1 (pos 0)) x tt p h) (le_of_eq (mul-one (num x))))

pub at_most : (x : Float) → T (le x (fin false 25 (pos 3))) → T (positive x) → num x ≤ 200 * den x
at_most x h p = le_trans (le_of_eq (sym (mul-one (num x)))) (le→cross x (fin false 25 (pos 3)) p tt h)

pub record Scaled (a b m e : ℕ) : Type 0 where
  pub from : 2096 ≤ e
  pub upto : e ≤ 2103
  pub most : m * 2 ^ (e - 2096) ≤ 200 * 2 ^ 52
  pub value : m * 2 ^ (e - 2096) * b ≡ a * 2 ^ 52

pub scaled_of : (a b m e : ℕ) → 0 < b → b ≤ a → a ≤ 200 * b → 2 ^ 52 ≤ m → m < 2 ^ 53 → a * (2 ^ 1074 * 2 ^ 1074) ≡ m * 2 ^ e * b → Scaled a b m e
scaled_of a b m e B h k l u v = record { from = from; upto = upto; most = most; value = value }
  where
    low : 2 ^ 1074 * 2 ^ 1074 ≤ m * 2 ^ e
    low = le_of_mul-le-mul_right {k = b} (le_trans (le_of_eq (mul_comm (2 ^ 1074 * 2 ^ 1074) b)) (le_trans (mul-le-mul_right (2 ^ 1074 * 2 ^ 1074) h) (le_of_eq v))) B

    high : m * 2 ^ e ≤ 200 * (2 ^ 1074 * 2 ^ 1074)
    high = le_of_mul-le-mul_right {k = b} (le_trans (le_of_eq (sym v)) (le_trans (mul-le-mul_right (2 ^ 1074 * 2 ^ 1074) k) (le_of_eq (mul_right_comm 200 b (2 ^ 1074 * 2 ^ 1074))))) B

    fewer : (e : ℕ) → e < 2096 → 53 + e ≤ 2148
    fewer e g = omega arith

    from : 2096 ≤ e
    from = elim (dec_le 2096 e) [ yes y ↦ y | no f ↦ absurd (lt_irrefl (m * 2 ^ e) (lt_of_lt_of_le (shl_lt 53 e u) (le_trans (pow_mono (fewer e (lt_of_not-le f))) low))) ]

    more : (e : ℕ) → 2103 < e → 2156 ≤ 52 + e
    more e g = omega arith

    upto : e ≤ 2103
    upto = elim (dec_le e 2103) [ yes y ↦ y | no f ↦ absurd (lt_irrefl (m * 2 ^ e) (lt_of_le_of_lt high (lt_of_lt_of_le below (le_trans (pow_mono (more e (lt_of_not-le f))) (le_trans (le_of_eq (pow-add 2 52 e)) (mul-le-mul_right (2 ^ e) l)))))) ]
      where
        below : 200 * (2 ^ 1074 * 2 ^ 1074) < 2 ^ 2156
        below = leb→le (suc (200 * (2 ^ 1074 * 2 ^ 1074))) (2 ^ 2156) tt

    back : (e : ℕ) → 2096 ≤ e → e - 2096 + 2096 ≡ e
    back e g = omega arith

    joined : m * 2 ^ (e - 2096) * 2 ^ 2096 ≡ m * 2 ^ e
    joined = mul_assoc m (2 ^ (e - 2096)) (2 ^ 2096) ∙ ap (λ (z : ℕ). m * z) (sym (pow-add 2 (e - 2096) 2096) ∙ ap (λ (z : ℕ). 2 ^ z) (back e from))

    most : m * 2 ^ (e - 2096) ≤ 200 * 2 ^ 52
    most = le_of_mul-le-mul_right {k = 2 ^ 2096} (le_trans (le_of_eq joined) high) (pow_pos 2096)

    value : m * 2 ^ (e - 2096) * b ≡ a * 2 ^ 52
    value =
        eq_of_mul-eq-mul_right (2 ^ 2096) (pow_pos 2096) (m * 2 ^ (e - 2096) * b) (a * 2 ^ 52)
        (mul_right_comm (m * 2 ^ (e - 2096)) b (2 ^ 2096) ∙ ap (λ (z : ℕ). z * b) joined ∙ sym v ∙ sym (mul_assoc a (2 ^ 52) (2 ^ 2096)))

pub fits_of : (y : ℕ) → y ≤ 200 * 2 ^ 52 → y % 2 ^ 64 ≡ y
fits_of y h = mod-eq_of_lt (go y h)
  where
    go : (y : ℕ) → y ≤ 200 * 2 ^ 52 → y < 2 ^ 64
    go y h = omega arith

pub shift_fits : (e : ℕ) → e ≤ 2103 → e - 2096 < 64
shift_fits e h = omega arith

-- ---- below 1
pub below_one : (x : Float) → T (lt (fin false 0 (pos 0)) x) → T (lt x (fin false 1 (pos 0))) → num x < den x
unfolding lt
below_one nan h k = absurd h
below_one (inf true) h k = absurd h
below_one (inf false) h k = absurd k
below_one (fin true m e) h k = absurd h
below_one (fin false m e) h k = subst (λ (z : ℕ). m * up e < z) (one-mul (down e)) (subst (λ (z : ℕ). z < 1 * 1 * down e) (mul-one (m * up e)) (ltb→lt (m * up e * 1) (1 * 1 * down e) k))

-- ---- from 2 ^ -27 to 1
pub shifted : (m : ℕ) → m < 2 ^ 53 → m * 2 ^ 10 % 2 ^ 64 ≡ m * 2 ^ 10
shifted m h = mod-eq_of_lt (go m h)
  where
    go : (m : ℕ) → m < 2 ^ 53 → m * 2 ^ 10 < 2 ^ 64
    go m h = omega arith

weaker : (x y : Float) → T (lt x y) → T (le x y)
unfolding le
weaker x y h = or_first (lt x y) (eq x y) h
  where
    or_first : (a b : Bool) → T a → T (a || b)
    or_first true b t = tt
    or_first false b t = absurd t

pub low_positive : (x : Float) → T (le (of_bits binary64 0x3e40_0000_0000_0000) x) → T (lt x (fin false 1 (pos 0))) → T (positive x)
unfolding of_bits
low_positive x h k = between (of_bits binary64 0x3e40_0000_0000_0000) x (fin false 1 (pos 0)) tt tt h (weaker x (fin false 1 (pos 0)) k)

pub not_tiny : (x : Float) → T (le (of_bits binary64 0x3e40_0000_0000_0000) x) → T (positive x) → den x ≤ num x * 2 ^ 27
unfolding of_bits
not_tiny x h p = le_trans (le_of_eq (sym (one-mul (den x)))) (le→cross (of_bits binary64 0x3e40_0000_0000_0000) x tt p h)

pub split_of : (a b m e : ℕ) → 0 < b → a < b → b ≤ a * 2 ^ 27 → 2 ^ 52 ≤ m → m < 2 ^ 53 → a * (2 ^ 1074 * 2 ^ 1074) ≡ m * 2 ^ e * b → (e ≤ 2095) × IsSplit a b (m * 2 ^ 10 % 2 ^ 64) (2095 - e)
split_of a b m e B h k l u v = (
  upto,
  rw (shifted m u) record {
    least = mul-le-mul_right (2 ^ 10) l;
    most = most m u;
    shift = shift e from;
    below = h;
    value = value;
  },
)
  where
    most : (m : ℕ) → m < 2 ^ 53 → m * 2 ^ 10 ≤ 2 ^ 63 - 2 ^ 10
    most m u = omega arith

    shift : (e : ℕ) → 2069 ≤ e → 2095 - e ≤ 26
    shift e g = omega arith

    high : m * 2 ^ e < 2 ^ 1074 * 2 ^ 1074
    high = lt_of_mul-lt-mul_right b (lt_of_le_of_lt (le_of_eq (sym v)) (lt_of_lt_of_le (mul-lt-mul_of_pos_right h (mul-pos (pow_pos 1074) (pow_pos 1074))) (le_of_eq (mul_comm b (2 ^ 1074 * 2 ^ 1074)))))

    low : 2 ^ 1074 * 2 ^ 1074 ≤ m * 2 ^ e * 2 ^ 27
    low = le_of_mul-le-mul_right {k = b} (le_trans (le_of_eq (mul_comm (2 ^ 1074 * 2 ^ 1074) b)) (le_trans (mul-le-mul_right (2 ^ 1074 * 2 ^ 1074) k) (le_of_eq (mul_right_comm a (2 ^ 27) (2 ^ 1074 * 2 ^ 1074) ∙ ap (λ (z : ℕ). z * 2 ^ 27) v ∙ mul_right_comm (m * 2 ^ e) b (2 ^ 27))))) B

    more : (e : ℕ) → 2095 < e → 2148 ≤ 52 + e
    more e g = omega arith

    upto : e ≤ 2095
    upto = elim (dec_le e 2095) [ yes y ↦ y | no f ↦ absurd (lt_irrefl (m * 2 ^ e) (lt_of_lt_of_le high (le_trans (pow_mono (more e (lt_of_not-le f))) (le_trans (le_of_eq (pow-add 2 52 e)) (mul-le-mul_right (2 ^ e) l))))) ]

    fewer : (e : ℕ) → e < 2069 → 53 + e + 27 ≤ 2148
    fewer e g = omega arith

    from : 2069 ≤ e
    from = elim (dec_le 2069 e) [ yes y ↦ y | no f ↦ absurd (lt_irrefl (2 ^ 2148) (lt_of_le_of_lt low (lt_of_lt_of_le (mul-lt-mul_of_pos_right (shl_lt 53 e u) (pow_pos 27)) (le_trans (le_of_eq (sym (pow-add 2 (53 + e) 27))) (pow_mono (fewer e (lt_of_not-le f))))))) ]

    back : (e : ℕ) → e ≤ 2095 → 2095 - e + e ≡ 2095
    back e g = omega arith

    value : a * (2 ^ 63 * 2 ^ (2095 - e)) ≡ m * 2 ^ 10 * b
    value =
        eq_of_mul-eq-mul_right (2 ^ e) (pow_pos e) (a * (2 ^ 63 * 2 ^ (2095 - e))) (m * 2 ^ 10 * b)
        (mul_assoc a (2 ^ 63 * 2 ^ (2095 - e)) (2 ^ e)
        ∙ ap (λ (z : ℕ). a * z) (mul_assoc (2 ^ 63) (2 ^ (2095 - e)) (2 ^ e) ∙ ap (λ (z : ℕ). 2 ^ 63 * z) (sym (pow-add 2 (2095 - e) e) ∙ ap (λ (z : ℕ). 2 ^ z) (back e upto)))
        ∙ sym (mul_assoc a (2 ^ 1074 * 2 ^ 1074) (2 ^ 10))
        ∙ ap (λ (z : ℕ). z * 2 ^ 10) v
        ∙ turn (2 ^ e) (2 ^ 10))
      where
        turn : (p t : ℕ) → m * p * b * t ≡ m * t * b * p
        turn p t = simp (mul_assoc, mul_comm, mul_left_comm)

-- below 2 ^ -27
pub tiny_of : (x : Float) → T (le (fin false 0 (pos 0)) x) → T (lt x (of_bits binary64 0x3e40_0000_0000_0000)) → num x * 2 ^ 27 ≤ den x
unfolding lt le of_bits
tiny_of nan h k = absurd k
tiny_of (inf true) h k = absurd h
tiny_of (inf false) h k = absurd k
tiny_of (fin false m e) h k = le_of_lt (lt_of_lt_of_le (ltb→lt (m * up e * 2 ^ 27) (1 * 1 * down e) k) (le_of_eq (one-mul (down e))))
tiny_of (fin true zero e) h k = le_trans (le_of_eq (ap (λ (z : ℕ). z * 2 ^ 27) (zero-mul (up e)) ∙ zero-mul (2 ^ 27))) zero-le
tiny_of (fin true (suc m) e) h k = absurd (apart_from (0 * 1 * down e) (suc m * up e * 1) (zero-mul (down e)) (side m e) (eqb→eq (0 * 1 * down e) (suc m * up e * 1) (and_l (eqb (0 * 1 * down e) (suc m * up e * 1)) (eqb (0 * 1 * down e) 0) h)))

pub whole_of : (x : Float) → T (le (fin false 0 (pos 0)) x) → T (lt x (of_bits binary64 0x3e40_0000_0000_0000)) → Whole x
unfolding lt le of_bits
whole_of nan h k = absurd k
whole_of (inf true) h k = absurd h
whole_of (inf false) h k = absurd k
whole_of (fin false m e) h k = record { number = tt; more = refl; none = refl }
whole_of (fin true zero e) h k = record { number = tt; more = sym (zero-mul (up e)); none = zero-mul (up e) }
whole_of (fin true (suc m) e) h k = absurd (apart_from (0 * 1 * down e) (suc m * up e * 1) (zero-mul (down e)) (side m e) (eqb→eq (0 * 1 * down e) (suc m * up e * 1) (and_l (eqb (0 * 1 * down e) (suc m * up e * 1)) (eqb (0 * 1 * down e) 0) h)))

-- not below a value above zero: from it on
or_second : (a b : Bool) → T b → T (a || b)
or_second true b t = tt
or_second false b t = t

of_le : (a b : ℕ) → a ≤ b → T (ltb a b || (eqb a b && true))
of_le a b h = elim (eq-or-lt_of_le h) [ inl p ↦ or_second (ltb a b) (eqb a b && true) (subst (λ (x : ℕ). T (eqb a x && true)) p (both (eqb a a) (eqb_refl a))) | inr q ↦ subst (λ (t : Bool). T (t || (eqb a b && true))) (sym (is_true (ltb a b) (lt→ltb a b q))) tt ]
  where
    both : (x : Bool) → T x → T (x && true)
    both true t = tt
    both false t = t

    is_true : (x : Bool) → T x → x ≡ true
    is_true true t = refl
    is_true false t = absurd t

pub from_of : (x : Float) (p : ℕ) (d : ℤ) → T (le (fin false 0 (pos 0)) x) → lt x (fin false (suc p) d) ≡ false → T (le (fin false (suc p) d) x)
unfolding lt le
from_of nan p d h k = absurd h
from_of (inf true) p d h k = absurd h
from_of (inf false) p d h k = tt
from_of (fin false m e) p d h k = of_le (suc p * up d * down e) (m * up e * down d) (ltb-false (m * up e * down d) (suc p * up d * down e) k)
from_of (fin true zero e) p d h k = absurd (none (0 * up e * down d + suc p * up d * down e) (sums (0 * up e * down d) (suc p * up d * down e) (mul-pos (mul-pos (zero-lt-suc p) (up_pos d)) (down_pos e))) (ltb-false 0 (0 * up e * down d + suc p * up d * down e) k))
  where
    sums : (a b : ℕ) → 0 < b → 0 < a + b
    sums a b h = omega arith

    none : (a : ℕ) → 0 < a → a ≤ 0 → ⊥
    none a h l = omega arith
from_of (fin true (suc m) e) p d h k = absurd (apart_from (0 * 1 * down e) (suc m * up e * 1) (zero-mul (down e)) (side m e) (eqb→eq (0 * 1 * down e) (suc m * up e * 1) (and_l (eqb (0 * 1 * down e) (suc m * up e * 1)) (eqb (0 * 1 * down e) 0) h)))

-- ---- what tests say
pub inside : (a b : Bool) → a ≡ true → b ≡ true → T (not (a && b)) → ⊥
inside true true p q t = t
inside true false p q t = absurd (true≢false (sym q))
inside false b p q t = absurd (true≢false (sym p))

pub past : (a b : Bool) → b ≡ false → T (a && b) → ⊥
past true true q t = true≢false q
past true false q t = t
past false b q t = t

pub before : (a b : Bool) → a ≡ false → T (a && b) → ⊥
before true b p t = true≢false p
before false b p t = t

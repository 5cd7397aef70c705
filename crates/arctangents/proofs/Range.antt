-- A double from 0 on: zero, and below 2 in units of 2 ^ -58. Assumes nothing.
use mathlib.Core.Path.{◌≡◌, refl, sym, ap, ◌∙◌, subst}
use mathlib.Core.Bool.{true, false}
use Prim.Native.Nat.{ℕ, zero, suc, ◌+◌, ◌-◌, ◌*◌, ◌/◌, ◌%◌, ◌^◌, ◌≤◌, ◌<◌, zero-le}
use native.Mathlib.Nat.{le_trans, mul-zero, le_of_eq, le_of_lt, lt_irrefl, lt_of_lt_of_le, lt_of_le_of_lt, lt_of_not-le, mul_comm, mul_assoc, mul_right_comm, mul_left_comm, mul-le-mul_right, le_of_mul-le-mul_right, mul-pos, one-mul, mul-one, zero-mul, mod-eq_of_lt, zero-lt-suc, div-mul-le_self, lt-div-mul-add, suc-mul, lt_of_mul-lt-mul_right, mul-lt-mul_of_pos_right}
use native.Mathlib.Decide.{dec_le}
use native.Mathlib.Omega.{arith}
use lib.IntN.{pos}
use lib.Dec.{T, eqb, eqb→eq, ltb→lt, leb→le}
use lib.Pow.{pow-add, pow_pos, pow_mono, shl_lt}
use lib.Ieee.{Float, nan, inf, fin, up, down, lt, le}
use lib.Ieee.Fits.{and_l}
use lib.Ieee.Positive.{num, den, positive}
use Rattle.circle.proofs.fixed.Order.{above_of, below_finite}
use Rattle.arctangents.specs.Inside.Arctangent.{IsFine}
use Rattle.circle.specs.Within as C
use borrow.Author.Tests.{ltb-false}
use Rattle.circle.specs.Series.{east, west, part, term}
use Rattle.arctangents.specs.Arctangent.{NotBelow}
use Rattle.circle.proofs.Terms.{term_law}
use Rattle.circle.proofs.Alternate.{east_most}
use Rattle.circle.proofs.Tiny.{norths, souths, far}
use Rattle.circle.proofs.fixed.Zero.{Whole, apart_from, side}

-- ---- zero
not_under : (a b : ℕ) → a ≡ 0 → 0 < b → b ≤ a → ⊥
not_under a b p q e = omega arith

pub is_zero : (x : Float) → T (le (fin false 0 (pos 0)) x) → lt (fin false 0 (pos 0)) x ≡ false → num x ≡ 0
unfolding lt le
is_zero nan h z = refl
is_zero (inf s) h z = refl
is_zero (fin s zero e) h z = zero-mul (up e)
is_zero (fin false (suc m) e) h z = absurd (not_under (0 * 1 * down e) (suc m * up e * 1) (zero-mul (down e)) (side m e) (ltb-false (0 * 1 * down e) (suc m * up e * 1) z))
is_zero (fin true (suc m) e) h z = absurd (apart_from (0 * 1 * down e) (suc m * up e * 1) (zero-mul (down e)) (side m e) (eqb→eq (0 * 1 * down e) (suc m * up e * 1) (and_l (eqb (0 * 1 * down e) (suc m * up e * 1)) (eqb (0 * 1 * down e) 0) h)))

-- ---- below 2, in units of 2 ^ -58
pub two_positive : (x : Float) → T (lt (fin false 0 (pos 0)) x) → T (lt x (fin false 1 (pos 1))) → T (positive x)
two_positive x h k = above_of x h (below_finite x false 1 (pos 1) k)

pub below_two : (x : Float) → T (lt (fin false 0 (pos 0)) x) → T (lt x (fin false 1 (pos 1))) → num x < 2 * den x
unfolding lt
below_two nan h k = absurd h
below_two (inf true) h k = absurd h
below_two (inf false) h k = absurd k
below_two (fin true m e) h k = absurd h
below_two (fin false m e) h k = subst (λ (z : ℕ). z < 1 * 2 * down e) (mul-one (m * up e)) (ltb→lt (m * up e * 1) (1 * 2 * down e) k)

-- Z is m * 2 ^ 6 * 2 ^ e, and a / b is Z / 2 ^ 2154
fine_of : (a b y Z : ℕ) → 0 < b → a < 2 * b → a * (2 ^ 1074 * 2 ^ 1074) * 2 ^ 6 ≡ Z * b → y * 2 ^ 2096 ≤ Z → Z ≤ suc y * 2 ^ 2096 → IsFine a b y
fine_of a b y Z B h v l u = record {
  most = le_of_mul-le-mul_right {k = b} (le_trans low (le_trans (mul-le-mul_right (2 ^ 58) (le_of_lt h)) (le_of_eq turn))) B;
  range = le_of_lt h;
  low = low;
  high = le_of_mul-le-mul_right {k = 2 ^ 2096} (le_trans (le_of_eq (same ∙ v)) (le_trans (mul-le-mul_right b u) (le_of_eq (mul_right_comm (suc y) (2 ^ 2096) b)))) (pow_pos 2096);
}
  where
    same : a * 2 ^ 58 * 2 ^ 2096 ≡ a * (2 ^ 1074 * 2 ^ 1074) * 2 ^ 6
    same = mul_assoc a (2 ^ 58) (2 ^ 2096) ∙ sym (mul_assoc a (2 ^ 1074 * 2 ^ 1074) (2 ^ 6))

    low : y * b ≤ a * 2 ^ 58
    low = le_of_mul-le-mul_right {k = 2 ^ 2096} (le_trans (le_of_eq (mul_right_comm y b (2 ^ 2096))) (le_trans (mul-le-mul_right b l) (le_of_eq (sym v ∙ sym same)))) (pow_pos 2096)

    turn : 2 * b * 2 ^ 58 ≡ 2 ^ 59 * b
    turn = mul_right_comm 2 b (2 ^ 58)

pub fine_shifted : (m : ℕ) → m < 2 ^ 53 → m * 2 ^ 6 % 2 ^ 64 ≡ m * 2 ^ 6
fine_shifted m u = mod-eq_of_lt (wide m u)
  where
    wide : (m : ℕ) → m < 2 ^ 53 → m * 2 ^ 6 < 2 ^ 64
    wide m u = omega arith

module _ (a b m e : ℕ) (B : 0 < b) (h : a < 2 * b) (l : 2 ^ 52 ≤ m) (u : m < 2 ^ 53) (v : a * (2 ^ 1074 * 2 ^ 1074) ≡ m * 2 ^ e * b) where
  moved : a * (2 ^ 1074 * 2 ^ 1074) * 2 ^ 6 ≡ m * 2 ^ 6 * 2 ^ e * b
  moved = ap (λ (z : ℕ). z * 2 ^ 6) v ∙ turn (2 ^ e) (2 ^ 6)
    where
      turn : (p q : ℕ) → m * p * b * q ≡ m * q * p * b
      turn p q = simp (mul_assoc, mul_comm, mul_left_comm)

  pub fine_none : e < 2033 → IsFine a b 0
  fine_none k = fine_of a b 0 (m * 2 ^ 6 * 2 ^ e) B h moved (le_trans (le_of_eq (zero-mul (2 ^ 2096))) zero-le) (le_trans (le_of_lt (shl_lt 59 e (wide m u))) (le_trans (pow_mono {i = 59 + e} {j = 2096} (go e k)) (le_of_eq (sym (one-mul (2 ^ 2096))))))
    where
      wide : (m : ℕ) → m < 2 ^ 53 → m * 2 ^ 6 < 2 ^ 59
      wide m u = omega arith

      go : (e : ℕ) → e < 2033 → 59 + e ≤ 2096
      go e k = omega arith

  pub fine_upto : e ≤ 2096
  fine_upto = elim (dec_le e 2096) [ yes y ↦ y | no f ↦ absurd (lt_irrefl (m * 2 ^ e) (lt_of_lt_of_le high (le_trans (pow_mono {i = 2149} {j = 52 + e} (more e (lt_of_not-le f))) (le_trans (le_of_eq (pow-add 2 52 e)) (mul-le-mul_right (2 ^ e) l))))) ]
    where
      more : (e : ℕ) → 2096 < e → 2149 ≤ 52 + e
      more e g = omega arith

      high : m * 2 ^ e < 2 ^ 2149
      high = lt_of_mul-lt-mul_right b (lt_of_le_of_lt (le_of_eq (sym v)) (lt_of_lt_of_le (mul-lt-mul_of_pos_right h (mul-pos (pow_pos 1074) (pow_pos 1074))) (le_of_eq (mul_right_comm 2 b (2 ^ 1074 * 2 ^ 1074)))))

  pub fine_some : IsFine a b (m * 2 ^ 6 % 2 ^ 64 / 2 ^ (2096 - e))
  fine_some = subst (λ (z : ℕ). IsFine a b (z / g)) (sym (fine_shifted m u)) (fine_of a b (m * 2 ^ 6 / g) (m * 2 ^ 6 * 2 ^ e) B h moved lower upper)
    where
      g : ℕ
      g = 2 ^ (2096 - e)

      back : (e : ℕ) → e ≤ 2096 → 2096 - e + e ≡ 2096
      back e l = omega arith

      joined : (y : ℕ) → y * g * 2 ^ e ≡ y * 2 ^ 2096
      joined y = mul_assoc y g (2 ^ e) ∙ ap (λ (z : ℕ). y * z) (sym (pow-add 2 (2096 - e) e) ∙ ap (λ (z : ℕ). 2 ^ z) (back e fine_upto))

      lower : m * 2 ^ 6 / g * 2 ^ 2096 ≤ m * 2 ^ 6 * 2 ^ e
      lower = le_trans (le_of_eq (sym (joined (m * 2 ^ 6 / g)))) (mul-le-mul_right (2 ^ e) (div-mul-le_self (m * 2 ^ 6) g))

      upper : m * 2 ^ 6 * 2 ^ e ≤ suc (m * 2 ^ 6 / g) * 2 ^ 2096
      upper = le_trans (mul-le-mul_right (2 ^ e) (le_trans (le_of_lt (lt-div-mul-add (pow_pos (2096 - e)))) (le_of_eq (sym (suc-mul (m * 2 ^ 6 / g) g))))) (le_of_eq (joined (suc (m * 2 ^ 6 / g))))

pub less_none : (x : Float) → T (positive x) → C.less x ≡ 0
less_none nan p = absurd p
less_none (inf s) p = absurd p
less_none (fin true m e) p = absurd p
less_none (fin false m e) p = refl

pub whole_zero : (x : Float) → T (le (fin false 0 (pos 0)) x) → T (lt x (inf false)) → lt (fin false 0 (pos 0)) x ≡ false → Whole x
unfolding lt le
whole_zero nan h k z = absurd h
whole_zero (inf true) h k z = absurd h
whole_zero (inf false) h k z = absurd k
whole_zero (fin false m e) h k z = record { number = tt; more = refl; none = refl }
whole_zero (fin true zero e) h k z = record { number = tt; more = sym (zero-mul (up e)); none = zero-mul (up e) }
whole_zero (fin true (suc m) e) h k z = absurd (apart_from (0 * 1 * down e) (suc m * up e * 1) (zero-mul (down e)) (side m e) (eqb→eq (0 * 1 * down e) (suc m * up e * 1) (and_l (eqb (0 * 1 * down e) (suc m * up e * 1)) (eqb (0 * 1 * down e) 0) h)))

-- ---- the sine of 2 ^ -40 is not negative: the arctangent of zero
pub zero_is : (b n : ℕ) → 600 ≤ n → NotBelow 0 b (2 ^ 18) (2 ^ 58) n
zero_is b n l = rw (norths a₀ b₀ n (pow_pos 58) tiny l, souths a₀ b₀ n (pow_pos 58) tiny l, mul-zero (part (term a₀ b₀ n) n east), mul-zero (part (term a₀ b₀ n) n west)) (go (mul-le-mul_right b (le_trans (east_most (term a₀ b₀ n) a₀ b₀ n 3 (n - 3) (pow_pos 58) (leb→le a₀ b₀ tt) (term_law a₀ b₀ n) (zero-lt-suc 2) (fits n l)) (le_trans (sums (term a₀ b₀ n 3) (term a₀ b₀ n 1) (far a₀ b₀ n (pow_pos 58) tiny l)) (more (term a₀ b₀ n 1) (part (λ (j : ℕ). term a₀ b₀ n (3 + j)) (n - 3) west))))))
  where
    a₀ : ℕ
    a₀ = 2 ^ 18

    b₀ : ℕ
    b₀ = 2 ^ 58

    tiny : 2 ^ 18 * 2 ^ 27 ≤ 2 ^ 58
    tiny = leb→le (2 ^ 18 * 2 ^ 27) (2 ^ 58) tt

    fits : (n : ℕ) → 600 ≤ n → 3 + (n - 3) ≤ n
    fits n l = omega arith

    sums : (x y : ℕ) → 2 ^ 54 * (2 * 3 * x) ≤ y → 2 * x ≤ y
    sums x y h = omega arith

    more : (x y : ℕ) → x ≤ x + y
    more x y = omega arith

    go : {x y : ℕ} → x ≤ y → 0 + x ≤ y + 0
    go h = omega (arith, h)

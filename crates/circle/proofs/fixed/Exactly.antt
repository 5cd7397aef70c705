-- A whole number over a power of 2, as a double. Assumes nothing.
use mathlib.Core.Path.{◌≡◌, sym, ap, ◌∙◌, subst}
use mathlib.Core.Bool.{Bool, true, false, not, cond, true≢false}
use Prim.Native.Nat.{ℕ, zero, suc, ◌+◌, ◌-◌, ◌*◌, ◌^◌, ◌≤◌, ◌<◌}
use native.Mathlib.Nat.{mul_comm, mul-one, mul_assoc, mul_left_comm, mul-pos, lt_of_lt_of_le, zero-lt-suc, zero-mul}
use native.Mathlib.Omega.{arith}
use lib.IntN.{ℤ, pos}
use lib.Dec.{eqb, eqb-suc-zero}
use lib.Pow.{pow_pos, shl_lt, pow_mono, pow-add}
use lib.Ieee.{Float, nan, inf, fin, up, down, binary64, round, div, neg, of_int}
use lib.Ieee.Fits.{up_pos, down_pos}
use lib.Ieee.Exact.{HasValue, round_exact}
use lib.Ieee.Scale.{round_same}

pub whole : (n : ℕ) → n < 2 ^ 53 → HasValue (of_int binary64 (pos n)) false n 1
unfolding of_int
whole n h = round_exact binary64 false n 1 n 1074 (zero-lt-suc 0) (omega arith) (lt_of_lt_of_le (shl_lt 53 1074 h) (pow_mono {i = 53 + 1074} {j = 1074 + 1024} (omega arith))) (sym (mul-one (n * 2 ^ 1074)))

-- the quotient is exact, so it is not rounded
rounded : (n i j : ℕ) → n < 2 ^ 53 → i + j ≤ 1022 → HasValue (round binary64 false n (2 ^ i * 2 ^ j)) false n (2 ^ i * 2 ^ j)
rounded n i j h l =
    round_exact binary64 false n (2 ^ i * 2 ^ j) n (1074 - (i + j)) (mul-pos (pow_pos i) (pow_pos j)) h
    (lt_of_lt_of_le (shl_lt 53 (1074 - (i + j)) h) (pow_mono {i = 53 + (1074 - (i + j))} {j = 1074 + 1024} (fewer (i + j))))
    (sym (mul_assoc n (2 ^ (1074 - (i + j))) (2 ^ i * 2 ^ j) ∙ ap (λ (z : ℕ). n * z) (ap (λ (z : ℕ). 2 ^ (1074 - (i + j)) * z) (sym (pow-add 2 i j)) ∙ sym (pow-add 2 (1074 - (i + j)) (i + j)) ∙ ap (λ (z : ℕ). 2 ^ z) (back (i + j) l))))
  where
    fewer : (j : ℕ) → 53 + (1074 - j) ≤ 1074 + 1024
    fewer j = omega arith

    back : (j : ℕ) → j ≤ 1022 → 1074 - j + j ≡ 1074
    back j l = omega arith

not_none : (a p : ℕ) → a ≡ 0 → 0 < p → a ≡ p → ⊥
not_none a p e h k = omega arith

is_quotient : (m : ℕ) (e : ℤ) (p : ℕ) (d : ℤ) → div binary64 (fin false m e) (fin false (suc p) d) ≡ round binary64 false (m * up e * down d) (suc p * up d * down e)
unfolding div
is_quotient m e p d = ap (λ (b : Bool). cond b (cond (eqb m 0) nan (inf false)) (round binary64 false (m * up e * down d) (suc p * up d * down e))) (eqb-suc-zero p)

-- n / 2 ^ i over 2 ^ j
pub over_power : (x y : Float) (n i j : ℕ) → n < 2 ^ 53 → i + j ≤ 1022 → HasValue x false n (2 ^ i) → HasValue y false (2 ^ j) 1 → HasValue (div binary64 x y) false n (2 ^ i * 2 ^ j)
unfolding div
over_power nan y n i j h l v w = absurd v
over_power (inf s) y n i j h l v w = absurd v
over_power (fin true m e) y n i j h l v w = absurd (true≢false v.0)
over_power (fin false m e) nan n i j h l v w = absurd w
over_power (fin false m e) (inf s) n i j h l v w = absurd w
over_power (fin false m e) (fin true p d) n i j h l v w = absurd (true≢false w.0)
over_power (fin false m e) (fin false zero d) n i j h l v w = absurd (not_none (0 * up d * 1) (2 ^ j * down d) (ap (λ (z : ℕ). z * 1) (zero-mul (up d))) (mul-pos (pow_pos j) (down_pos d)) w.1)
over_power (fin false m e) (fin false (suc p) d) n i j h l v w =
    subst (λ (r : Float). HasValue r false n (2 ^ i * 2 ^ j))
    (sym (is_quotient m e p d ∙ sym (round_same binary64 false n (2 ^ i * 2 ^ j) (m * up e * down d) (suc p * up d * down e) (mul-pos (pow_pos i) (pow_pos j)) (mul-pos (mul-pos (zero-lt-suc p) (up_pos d)) (down_pos e))
    (one n (suc p * up d) (down e) ∙ ap (λ (z : ℕ). z * (suc p * up d)) (sym v.1) ∙ ap (λ (z : ℕ). m * up e * 2 ^ i * z) (sym (mul-one (suc p * up d)) ∙ w.1) ∙ two (m * up e) (2 ^ i) (2 ^ j) (down d)))))
    (rounded n i j h l)
  where
    one : (a b c : ℕ) → a * (b * c) ≡ a * c * b
    one a b c = simp (mul_assoc, mul_comm)

    two : (a b c d : ℕ) → a * b * (c * d) ≡ a * d * (b * c)
    two a b c d = simp (mul_assoc, mul_comm, mul_left_comm)

pub negated : (x : Float) (a c : ℕ) → HasValue x false a c → HasValue (neg x) true a c
unfolding neg
negated nan a c v = v
negated (inf s) a c v = v
negated (fin s m e) a c v = (ap not v.0, v.1)

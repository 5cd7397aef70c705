-- Sums at an argument of at most 2 ^ -27. Assumes nothing.
use mathlib.Core.Path.{◌≡◌, refl, sym, ap, ◌∙◌}
use Prim.Native.Nat.{ℕ, suc, ◌+◌, ◌-◌, ◌*◌, ◌^◌, ◌≤◌, ◌<◌}
use native.Mathlib.Nat.{le_trans, le_of_eq, mul_comm, mul_assoc, mul_left_comm, mul_right_comm, mul-le-mul, mul-le-mul_right, le_of_mul-le-mul_left, mul-pos, zero-lt-suc, lt_of_lt_of_le, mul-mul-mul_comm}
use native.Mathlib.Omega.{arith}
use lib.Pow.{pow_pos}
use Rattle.circle.specs.Series.{east, north, west, south, part, term}
use Rattle.circle.specs.Inside.Fixed.{Apart}
use Rattle.circle.specs.Inside.Circle.{State}
use Rattle.circle.proofs.Terms.{term_law}
use Rattle.circle.proofs.Alternate.{two_law, east_further, west_further, east_most, west_most, from_zero, from_one}

module _ (a b n : ℕ) (b0 : 0 < b) (tiny : a * 2 ^ 27 ≤ b) (l : 600 ≤ n) where
  pub small : a ≤ b
  small = go a b tiny
    where
      go : (a b : ℕ) → a * 2 ^ 27 ≤ b → a ≤ b
      go a b h = omega arith

  abbrev pub tu : ℕ → ℕ
  tu = term a b n

  -- the square of the argument is at most 2 ^ -54
  squared : 2 ^ 54 * (a * a) ≤ b * b
  squared = le_trans (le_of_eq (go a)) (mul-le-mul tiny tiny)
    where
      go : (a : ℕ) → 2 ^ 54 * (a * a) ≡ a * 2 ^ 27 * (a * 2 ^ 27)
      go a = sym (mul-mul-mul_comm a (2 ^ 27) a (2 ^ 27) ∙ mul_comm (a * a) (2 ^ 27 * 2 ^ 27))

  pub third : (k : ℕ) → suc k < n → 2 ^ 54 * (suc k * suc (suc k) * tu (suc (suc k))) ≤ tu k
  third k h = le_of_mul-le-mul_left {k = b * b} (le_trans (le_of_eq (mul_left_comm (b * b) (2 ^ 54) (suc k * suc (suc k) * tu (suc (suc k))) ∙ ap (λ (z : ℕ). 2 ^ 54 * z) (two_law tu a b n k (term_law a b n) h) ∙ sym (mul_assoc (2 ^ 54) (a * a) (tu k)))) (mul-le-mul_right (tu k) squared)) (mul-pos b0 b0)

  three_off : (n : ℕ) → 600 ≤ n → n - 1 ≡ suc (suc (n - 3))
  three_off n l = omega arith

  pub norths : part tu n north ≡ tu 1 + part (λ (j : ℕ). tu (3 + j)) (n - 3) west
  norths = ap (λ (x : ℕ). part tu x north) (longer n l) ∙ from_one tu (n - 1) north refl ∙ ap (λ (x : ℕ). part (λ (j : ℕ). tu (1 + j)) x east) (three_off n l) ∙ east_further tu 1 (n - 3)
    where
      longer : (n : ℕ) → 600 ≤ n → n ≡ suc (n - 1)
      longer n l = omega arith

  pub souths : part tu n south ≡ part (λ (j : ℕ). tu (3 + j)) (n - 3) east
  souths = ap (λ (x : ℕ). part tu x south) (longer n l) ∙ from_one tu (n - 1) south refl ∙ ap (λ (x : ℕ). part (λ (j : ℕ). tu (1 + j)) x west) (three_off n l) ∙ west_further tu 1 (n - 3)
    where
      longer : (n : ℕ) → 600 ≤ n → n ≡ suc (n - 1)
      longer n l = omega arith

  pub far : 2 ^ 54 * (2 * 3 * tu 3) ≤ tu 1
  far = third 1 (more n l)
    where
      more : (n : ℕ) → 600 ≤ n → 2 < n
      more n l = omega arith

-- ---- the cosine and the sine of 2 ^ -42
pub step_state : (a₀ : ℕ) → a₀ * 2 ^ 27 ≤ 2 ^ 58 → (n : ℕ) → 600 ≤ n → State (term a₀ (2 ^ 58) n) (term a₀ (2 ^ 58) n 0) n (2 ^ 63) 1024 (2 ^ 63) 0 (a₀ * 2 ^ 5) 0
step_state a₀ tiny n l = record {
  cosine = rw (easts, wests) (go_cos (v 0) (v 2) (part (λ (j : ℕ). v (2 + j)) (n - 2) west) (part (λ (j : ℕ). v (2 + j)) (n - 2) east) (third a₀ b₀ n (pow_pos 58) tiny l 0 (more n l)) (west_most v a₀ b₀ n 2 (n - 2) (pow_pos 58) upto (term_law a₀ b₀ n) (zero-lt-suc 1) (fits_2 n l)) (east_most v a₀ b₀ n 2 (n - 2) (pow_pos 58) upto (term_law a₀ b₀ n) (zero-lt-suc 1) (fits_2 n l)));
  sine = rw (norths a₀ b₀ n (pow_pos 58) tiny l, souths a₀ b₀ n (pow_pos 58) tiny l) (go_sin (v 0) (v 1) (v 3) (part (λ (j : ℕ). v (3 + j)) (n - 3) west) (part (λ (j : ℕ). v (3 + j)) (n - 3) east) (term_law a₀ b₀ n 0 (lt_of_lt_of_le (zero-lt-suc 599) l)) (far a₀ b₀ n (pow_pos 58) tiny l) (west_most v a₀ b₀ n 3 (n - 3) (pow_pos 58) upto (term_law a₀ b₀ n) (zero-lt-suc 2) (fits_4 n l)) (east_most v a₀ b₀ n 3 (n - 3) (pow_pos 58) upto (term_law a₀ b₀ n) (zero-lt-suc 2) (fits_4 n l)));
}
  where
    b₀ : ℕ
    b₀ = 2 ^ 58

    v : ℕ → ℕ
    v = term a₀ b₀ n

    upto : a₀ ≤ b₀
    upto = go a₀ tiny
      where
        go : (a : ℕ) → a * 2 ^ 27 ≤ 2 ^ 58 → a ≤ 2 ^ 58
        go a h = omega arith

    fits_2 : (n : ℕ) → 600 ≤ n → 2 + (n - 2) ≤ n
    fits_2 n l = omega arith

    fits_4 : (n : ℕ) → 600 ≤ n → 3 + (n - 3) ≤ n
    fits_4 n l = omega arith

    more : (n : ℕ) → 600 ≤ n → 1 < n
    more n l = omega arith

    two_off' : (n : ℕ) → 600 ≤ n → n ≡ suc (suc (n - 2))
    two_off' n l = omega arith

    easts : part v n east ≡ v 0 + part (λ (j : ℕ). v (2 + j)) (n - 2) west
    easts = from_zero v n east ∙ ap (λ (x : ℕ). part (λ (j : ℕ). v (0 + j)) x east) (two_off' n l) ∙ east_further v 0 (n - 2)

    wests : part v n west ≡ part (λ (j : ℕ). v (2 + j)) (n - 2) east
    wests = from_zero v n west ∙ ap (λ (x : ℕ). part (λ (j : ℕ). v (0 + j)) x west) (two_off' n l) ∙ west_further v 0 (n - 2)

    go_cos : (U t p q : ℕ) → 2 ^ 54 * (1 * 2 * t) ≤ U → p ≤ t → q ≤ 2 * t → Apart (2 ^ 63 * U) (0 * U) ((U + p) * 2 ^ 63) (q * 2 ^ 63) (1024 * U)
    go_cos U t p q h k m = record { under = omega (arith, h, k, m); over = omega (arith, h, k, m) }

    go_sin : (U w t p q : ℕ) → 2 ^ 58 * (1 * w) ≡ a₀ * U → 2 ^ 54 * (2 * 3 * t) ≤ w → p ≤ t → q ≤ 2 * t → Apart (a₀ * 2 ^ 5 * U) (0 * U) ((w + p) * 2 ^ 63) (q * 2 ^ 63) (1024 * U)
    go_sin U w t p q e h k m = rw (mul_right_comm a₀ (2 ^ 5) U) (close (a₀ * U) (le_trans (mul-le-mul_right U upto) (le_of_eq refl)) e)
      where
        close : (x : ℕ) → x ≤ 2 ^ 58 * U → 2 ^ 58 * (1 * w) ≡ x → Apart (x * 2 ^ 5) (0 * U) ((w + p) * 2 ^ 63) (q * 2 ^ 63) (1024 * U)
        close x b e = record { under = omega (arith, e, h, k, m, b); over = omega (arith, e, h, k, m, b) }

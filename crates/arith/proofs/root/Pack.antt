-- Which bit patterns the doubles above zero have, and which pattern a number of r * 2 ^ k smallest values has. Assumes nothing.
use Rattle.std.proofs.Common.{◌≡◌, ℕ, zero, suc, ◌+◌, ◌-◌, ◌*◌, ◌/◌, ◌%◌, ◌^◌, ◌<◌, ◌≤◌, Bool, true, false, cond, not, T, eqb, ltb, ◌⊎◌, sym, refl, ap, ◌∙◌, subst, inl, inr, true≢false, le_trans, le_of_eq, lt_of_lt_of_le, lt_of_le_of_lt, lt_irrefl, mul-le-mul_right, le_antisymm, eq-or-lt_of_le, lt_of_not-le, zero-add, mul-div_cancel, arith, pow_pos, pow_mono, pow-add, shl_lt}
use native.Mathlib.Nat.{pow-succ'}
use native.Mathlib.Decide.{dec_le}
use lib.Arith.{le→nltb}
use lib.Ieee.{Float, nan, inf, fin, down, binary64, odd, units, size, of_fields, of_bits, to_bits, nan_bits, fits}
use lib.Ieee.Bits.{of_bits-to_bits, nan_bits_above}
use lib.Ieee.Digits.{size-lt, size-le}
use lib.Ieee.Exact.{HasValue, units_val}
use lib.Ieee.Fits.{odd-fits, cond-fits, inf-fits, down_pos}
use lib.Ieee.Positive.{positive}
use Rattle.arith.specs.Double.{bits}
use Rattle.arith.proofs.Flags.{not_both}
use Rattle.arith.proofs.Fields.{bits_negative, bits_unsigned}

-- ---- which patterns the doubles have that are finite and above zero

-- nothing with the sign set is above zero
odd_signed : (d q k l : ℕ) → positive (odd d true q k l) ≡ false
unfolding odd
odd_signed d zero k l = refl
odd_signed d (suc q) k l = refl

signed : (x t : ℕ) → positive (of_fields binary64 true x t) ≡ false
unfolding of_fields
signed zero t = odd_signed 53 t 0 1074
signed (suc x) t = go (eqb (suc x) 2047) (eqb t 0)
  where
    go : (a b : Bool) → positive (cond a (cond b (inf true) nan) (odd 53 true (2 ^ 52 + t) x 1074)) ≡ false
    go true true = refl
    go true false = refl
    go false b = odd_signed 53 (2 ^ 52 + t) x 1074

-- the highest field is no finite number's
highest : (t : ℕ) → positive (of_fields binary64 false 2047 t) ≡ false
unfolding of_fields
highest t = go (eqb t 0)
  where
    go : (b : Bool) → positive (cond b (inf false) nan) ≡ false
    go true = refl
    go false = refl

none_positive : positive (bits 0) ≡ false
unfolding of_bits
none_positive = refl

pattern_pos : (b : ℕ) → T (positive (bits b)) → 0 < b
pattern_pos zero h = not_both (positive (bits 0)) none_positive h
pattern_pos (suc b) h = omega arith

pattern_finite : (b : ℕ) → T (positive (bits b)) → b < 2047 * 2 ^ 52
pattern_finite b h = lt_of_not-le (λ (g : 2047 * 2 ^ 52 ≤ b). not_both (positive (bits b)) (go g (dec_le (2 ^ 63) b)) h)
  where
    field : b < 2 ^ 63 → 2047 * 2 ^ 52 ≤ b → b / 2 ^ 52 ≡ 2047
    field k g = omega arith

    go : 2047 * 2 ^ 52 ≤ b → Dec (2 ^ 63 ≤ b) → positive (bits b) ≡ false
    go g (yes n) = ap positive (bits_negative b n) ∙ signed (b % 2 ^ 63 / 2 ^ 52) (b % 2 ^ 52)
    go g (no f) =
        ap positive (bits_unsigned b (lt_of_not-le f) ∙ ap (λ (x : ℕ). of_fields binary64 false x (b % 2 ^ 52)) (field (lt_of_not-le f) g))
        ∙ highest (b % 2 ^ 52)

module _ (x : Float) (held : T (fits binary64 x)) (above : T (positive x)) where
  own : T (positive (bits (to_bits binary64 x)))
  own = rw (of_bits-to_bits binary64 x held) above

  pub bits_pos : 0 < to_bits binary64 x
  bits_pos = pattern_pos (to_bits binary64 x) own

  pub bits_finite : to_bits binary64 x < 2047 * 2 ^ 52
  bits_finite = pattern_finite (to_bits binary64 x) own

-- ---- no NaN below the infinity
pub finite_bits : (b : ℕ) → b < 2047 * 2 ^ 52 → T (not (nan_bits binary64 b))
finite_bits b h = subst (λ (t : Bool). T (not t)) (sym (nan_bits_above binary64 b)) (le→nltb (2047 * 2 ^ 52) (b % 2 ^ 63) (short h))
  where
    short : b < 2047 * 2 ^ 52 → b % 2 ^ 63 ≤ 2047 * 2 ^ 52
    short h = omega arith

-- ---- how many digits a number has
pub size_exact : (a n : ℕ) → 2 ^ a ≤ n → n < 2 ^ suc a → size n ≡ suc a
size_exact a n lo hi = le_antisymm (size-le n (suc a) hi) (lt_of_not-le (λ (g : size n ≤ a). lt_irrefl n (lt_of_lt_of_le (size-lt n) (le_trans (pow_mono g) lo))))

-- ---- the pattern that is written for a value
to_bits_of : (v : Float) (a : ℕ) → HasValue v false a (2 ^ 1074) → to_bits binary64 v ≡ (size a - 53) * 2 ^ 52 + a / 2 ^ (size a - 53)
unfolding to_bits
to_bits_of nan a h = absurd h
to_bits_of (inf s) a h = absurd h
to_bits_of (fin true m e) a h = absurd (true≢false h.0)
to_bits_of (fin false m e) a h =
    ap (λ (n : ℕ). 0 + (size n - 53) * 2 ^ 52 + n / 2 ^ (size n - 53)) (ap (λ (x : ℕ). x / down e) h.1 ∙ mul-div_cancel a (down_pos e))
    ∙ ap (λ (y : ℕ). y + a / 2 ^ (size a - 53)) (zero-add ((size a - 53) * 2 ^ 52))

module _ (r k : ℕ) (least : 2 ^ 52 ≤ r) (most : r ≤ 2 ^ 53) (top : k ≤ 1533) where
  pub under : r * 2 ^ k < 2 ^ (1074 + 1024)
  under = lt_of_le_of_lt (mul-le-mul_right (2 ^ k) most) (subst (λ (x : ℕ). x < 2 ^ (1074 + 1024)) (pow-add 2 53 k) (lt_of_lt_of_le (le_of_eq (one_more (2 ^ (53 + k)))) (step (53 + k) (omega arith))))
    where
      one_more : (p : ℕ) → suc p ≡ p + 1
      one_more p = omega arith

      step : (j : ℕ) → j < 1074 + 1024 → 2 ^ j + 1 ≤ 2 ^ (1074 + 1024)
      step j h = le_trans (twice (2 ^ j) (pow_pos j)) (le_trans (le_of_eq (sym (pow-succ' 2 j))) (pow_mono h))
        where
          twice : (p : ℕ) → 0 < p → p + 1 ≤ 2 * p
          twice p h = omega arith

  pub units_fit : T (fits binary64 (units binary64 false r k))
  unfolding units
  units_fit =
      cond-fits binary64 (ltb (r * 2 ^ k) (2 ^ (1074 + 1024))) (odd 54 false r k 1074) (inf false)
      (odd-fits binary64 54 false r k (omega arith) most under) (inf-fits binary64 false)

  written : (size (r * 2 ^ k) - 53) * 2 ^ 52 + r * 2 ^ k / 2 ^ (size (r * 2 ^ k) - 53) ≡ k * 2 ^ 52 + r
  written = go (eq-or-lt_of_le most)
    where
      at : (j q : ℕ) → size (r * 2 ^ k) ≡ 53 + j → r * 2 ^ k ≡ q * 2 ^ j → (size (r * 2 ^ k) - 53) * 2 ^ 52 + r * 2 ^ k / 2 ^ (size (r * 2 ^ k) - 53) ≡ j * 2 ^ 52 + q
      at j q s e =
          ap (λ (z : ℕ). z * 2 ^ 52 + r * 2 ^ k / 2 ^ z) (ap (λ (z : ℕ). z - 53) s ∙ cut j)
          ∙ ap (λ (y : ℕ). j * 2 ^ 52 + y) (ap (λ (y : ℕ). y / 2 ^ j) e ∙ mul-div_cancel q (pow_pos j))
        where
          cut : (j : ℕ) → 53 + j - 53 ≡ j
          cut j = omega arith

      go : (r ≡ 2 ^ 53) ⊎ (r < 2 ^ 53) → (size (r * 2 ^ k) - 53) * 2 ^ 52 + r * 2 ^ k / 2 ^ (size (r * 2 ^ k) - 53) ≡ k * 2 ^ 52 + r
      go (inl e) =
          let is : r * 2 ^ k ≡ 2 ^ (53 + k) = ap (λ (x : ℕ). x * 2 ^ k) e ∙ sym (pow-add 2 53 k) in
          let more : 2 ^ (53 + k) ≡ 2 ^ 52 * 2 ^ suc k = ap (λ (x : ℕ). 2 ^ x) (shift k) ∙ pow-add 2 52 (suc k) in
          at (suc k) (2 ^ 52) (size_exact (53 + k) (r * 2 ^ k) (le_of_eq (sym is)) (subst (λ (x : ℕ). x < 2 ^ suc (53 + k)) (sym is) (twice (53 + k))) ∙ suc_out k) (is ∙ more)
          ∙ sym (ap (λ (x : ℕ). k * 2 ^ 52 + x) e ∙ carry k)
        where
          shift : (k : ℕ) → 53 + k ≡ 52 + suc k
          shift k = omega arith

          suc_out : (k : ℕ) → suc (53 + k) ≡ 53 + suc k
          suc_out k = omega arith

          twice : (j : ℕ) → 2 ^ j < 2 ^ suc j
          twice j = subst (λ (x : ℕ). 2 ^ j < x) (sym (pow-succ' 2 j)) (more_than (2 ^ j) (pow_pos j))
            where
              more_than : (p : ℕ) → 0 < p → p < 2 * p
              more_than p h = omega arith

          carry : (k : ℕ) → k * 2 ^ 52 + 2 ^ 53 ≡ suc k * 2 ^ 52 + 2 ^ 52
          carry k = omega arith
      go (inr l) =
          at k r (size_exact (52 + k) (r * 2 ^ k) (le_trans (le_of_eq (pow-add 2 52 k)) (mul-le-mul_right (2 ^ k) least)) (subst (λ (x : ℕ). r * 2 ^ k < 2 ^ x) (one_up k) (shl_lt 53 k l)) ∙ sym (one_up k)) refl
        where
          one_up : (k : ℕ) → 53 + k ≡ suc (52 + k)
          one_up k = omega arith

  -- the field is k + 1, and the leading digit of r adds that one
  pub pattern_of : of_bits binary64 (k * 2 ^ 52 + r) ≡ units binary64 false r k
  pattern_of =
      ap (of_bits binary64) (sym (to_bits_of (units binary64 false r k) (r * 2 ^ k) (units_val binary64 false r k under) ∙ written))
      ∙ of_bits-to_bits binary64 (units binary64 false r k) units_fit

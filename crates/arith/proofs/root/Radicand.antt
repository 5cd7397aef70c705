-- The square root of a double above zero, from the number m * 2 ^ e / 2 ^ 2148 that it is: what `root_above_zero` returns is `sqrt`. Assumes nothing.
use Rattle.std.proofs.Common.{◌≡◌, ℕ, zero, suc, ◌+◌, ◌-◌, ◌*◌, ◌/◌, ◌%◌, ◌^◌, ◌<◌, ◌≤◌, false, T, ◌⊎◌, sym, refl, ap, ◌∙◌, subst, inl, inr, le_trans, le_of_eq, lt_of_lt_of_le, le_of_suc-le-suc, lt_of_le_of_lt, lt_irrefl, mul-le-mul_right, mod-eq_of_lt, mul_assoc, mul_comm, mul-pos, lt_of_not-le, mul-one, mul-div_cancel, arith, pow_pos, pow_mono, pow-add, shl_lt}
use Prim.Native.Nat.{compare}
use lib.Ieee.{Float, binary64, size, units, of_bits, to_bits, fits}
use lib.Ieee.Bits.{of_bits-to_bits}
use lib.Ieee.Digits.{size-lt, size-le}
use lib.Ieee.Exact.{HasValue}
use lib.Ieee.Fits.{nearest-le}
use lib.Ieee.Nearest.{nearest-ge}
use lib.Ieee.Positive.{num, den, positive, den_pos, value→cross}
use Rattle.arith.specs.Root.{root_size, floor_root, nearest_root, rounded_root, sqrt}
use Rattle.arith.specs.Inside.Scaled.{IsScaled}
use Rattle.arith.proofs.root.Squares.{four, floor_root_is, sq_lt_back, nearest_root_same}
use Rattle.arith.proofs.root.Cases.{sqrt_positive}
use Rattle.arith.proofs.root.Pack.{pattern_of}

pub four_squares : (k : ℕ) → 4 ^ k ≡ 2 ^ k * 2 ^ k
four_squares k = four k ∙ pow-add 2 k k

-- ---- a number of 105 or 106 digits has a root of 53
module _ (n : ℕ) (lo : 2 ^ 104 ≤ n) (hi : n < 2 ^ 106) where
  floor_ge : 2 ^ 52 ≤ floor_root n
  floor_ge = le_of_suc-le-suc (sq_lt_back (2 ^ 52) (suc (floor_root n)) (lt_of_le_of_lt lo (floor_root_is n).1))

  floor_lt : floor_root n < 2 ^ 53
  floor_lt = sq_lt_back (floor_root n) (2 ^ 53) (lt_of_le_of_lt (floor_root_is n).0 hi)

  pub near_ge : 2 ^ 52 ≤ nearest_root n 1
  unfolding nearest_root
  near_ge = le_trans (subst (λ (x : ℕ). 2 ^ 52 ≤ floor_root x) (sym one) floor_ge) (nearest-ge (floor_root (n / 1)) (compare (n * 4) ((2 * floor_root (n / 1) + 1) * (2 * floor_root (n / 1) + 1) * 1)))
    where
      one : n / 1 ≡ n
      one = omega arith

  pub near_le : nearest_root n 1 ≤ 2 ^ 53
  unfolding nearest_root
  near_le = le_trans (nearest-le (floor_root (n / 1)) (compare (n * 4) ((2 * floor_root (n / 1) + 1) * (2 * floor_root (n / 1) + 1) * 1))) (subst (λ (x : ℕ). floor_root x < 2 ^ 53) (sym one) floor_lt)
    where
      one : n / 1 ≡ n
      one = omega arith

  -- with 2 * k digits more the root has k more
  size_root : (k : ℕ) → root_size (n * 4 ^ k) - 53 ≡ k
  size_root k = half (size (n * 4 ^ k)) (size-le (n * 4 ^ k) (106 + (k + k)) hi') (lt_of_not-le (λ (g : size (n * 4 ^ k) ≤ 104 + (k + k)). lt_irrefl (n * 4 ^ k) (lt_of_lt_of_le (size-lt (n * 4 ^ k)) (le_trans (pow_mono g) lo'))))
    where
      lo' : 2 ^ (104 + (k + k)) ≤ n * 4 ^ k
      lo' = le_trans (le_of_eq (pow-add 2 104 (k + k) ∙ ap (λ (x : ℕ). 2 ^ 104 * x) (sym (four k)))) (mul-le-mul_right (4 ^ k) lo)

      hi' : n * 4 ^ k < 2 ^ (106 + (k + k))
      hi' = subst (λ (x : ℕ). n * x < 2 ^ (106 + (k + k))) (sym (four k)) (shl_lt 106 (k + k) hi)

      half : (s : ℕ) → s ≤ 106 + (k + k) → 104 + (k + k) < s → (s + 1) / 2 - 53 ≡ k
      half s a b = omega arith

  -- ---- the root of a fraction a / b that is n * 4 ^ k / 2 ^ 2148
  root_of : (a b k : ℕ) → 0 < b → a * 2 ^ 1074 * 2 ^ 1074 ≡ n * 4 ^ k * b → rounded_root a b ≡ units binary64 false (nearest_root n 1) k
  unfolding rounded_root
  root_of a b k B e =
      ap (λ (z : ℕ). units binary64 false (nearest_root (a * 2 ^ 1074 * 2 ^ 1074) (b * 4 ^ z)) z) (ap (λ (z : ℕ). root_size z - 53) (ap (λ (z : ℕ). z / b) e ∙ mul-div_cancel (n * 4 ^ k) B) ∙ size_root k)
      ∙ ap (λ (z : ℕ). units binary64 false z k) (nearest_root_same (a * 2 ^ 1074 * 2 ^ 1074) (b * 4 ^ k) n 1 (mul-pos B four_pos) one_pos (mul-one (a * 2 ^ 1074 * 2 ^ 1074) ∙ e ∙ mul_assoc n (4 ^ k) b ∙ ap (λ (z : ℕ). n * z) (mul_comm (4 ^ k) b)))
    where
      one_pos : 0 < 1
      one_pos = omega arith

      four_pos : 0 < 4 ^ k
      four_pos = subst (λ (x : ℕ). 0 < x) (sym (four k)) (pow_pos (k + k))

-- ---- m * 2 ^ e as a number of 105 or 106 digits and an even power of two
abbrev pub part : ℕ → ℕ → ℕ
part m e = m * 2 ^ (e % 2)

module _ (m e : ℕ) (least : 2 ^ 52 ≤ m) (most : m < 2 ^ 53) where
  digit : (e % 2 ≡ 0) ⊎ (e % 2 ≡ 1)
  digit = go (e % 2) (omega arith)
    where
      go : (r : ℕ) → r < 2 → (r ≡ 0) ⊎ (r ≡ 1)
      go zero h = inl refl
      go (suc zero) h = inr refl
      go (suc (suc r)) h = absurd (too r h)
        where
          too : (r : ℕ) → suc (suc r) < 2 → ⊥
          too r h = omega arith

  pub part_in : (2 ^ 52 ≤ part m e) × (part m e < 2 ^ 54)
  part_in = go digit
    where
      go : (e % 2 ≡ 0) ⊎ (e % 2 ≡ 1) → (2 ^ 52 ≤ part m e) × (part m e < 2 ^ 54)
      go (inl p) = rw p (omega arith)
      go (inr p) = rw p (omega arith)

  pub part_fits : part m e % 2 ^ 64 ≡ part m e
  part_fits = mod-eq_of_lt (lt_of_lt_of_le part_in.1 (pow_mono {i = 54} {j = 64} (omega arith)))

  pub split : 52 ≤ e → m * 2 ^ e ≡ part m e * 2 ^ 52 * 4 ^ ((e - 52) / 2)
  split h =
      ap (λ (x : ℕ). m * 2 ^ x) parts
      ∙ ap (λ (x : ℕ). m * x) (pow-add 2 (e % 2) (52 + (k + k)) ∙ ap (λ (x : ℕ). 2 ^ (e % 2) * x) (pow-add 2 52 (k + k) ∙ ap (λ (x : ℕ). 2 ^ 52 * x) (sym (four k))))
      ∙ sym (mul_assoc m (2 ^ (e % 2)) (2 ^ 52 * 4 ^ k))
      ∙ sym (mul_assoc (part m e) (2 ^ 52) (4 ^ k))
    where
      k : ℕ
      k = (e - 52) / 2

      parts : e ≡ e % 2 + (52 + ((e - 52) / 2 + (e - 52) / 2))
      parts = omega arith

-- ---- the root of a double that is finite and above zero
module _ (x : Float) (held : T (fits binary64 x)) (above : T (positive x)) (m e : ℕ) (s : IsScaled (to_bits binary64 x) m e) where
  abbrev pub n : ℕ
  n = part m e * 2 ^ 52

  pub n_lo : 2 ^ 104 ≤ n
  n_lo = omega (arith, part_in m e s.least s.most)

  n_hi : n < 2 ^ 106
  n_hi = omega (arith, part_in m e s.least s.most)

  pub result_ge : 2 ^ 52 ≤ nearest_root n 1
  result_ge = near_ge n n_lo n_hi

  pub result_le : nearest_root n 1 ≤ 2 ^ 53
  result_le = near_le n n_lo n_hi

  valued : HasValue x false (m * 2 ^ e) (2 ^ 1074 * 2 ^ 1074)
  valued = subst (λ (y : Float). HasValue y false (m * 2 ^ e) (2 ^ 1074 * 2 ^ 1074)) (of_bits-to_bits binary64 x held) s.value

  pub radicand : num x * (2 ^ 1074 * 2 ^ 1074) ≡ n * 4 ^ ((e - 52) / 2) * den x
  radicand = value→cross x (m * 2 ^ e) (2 ^ 1074 * 2 ^ 1074) valued ∙ ap (λ (z : ℕ). z * den x) (split m e s.least s.most (omega arith))

  pub root_units : sqrt x ≡ units binary64 false (nearest_root n 1) ((e - 52) / 2)
  root_units = sqrt_positive x above ∙ root_of n n_lo n_hi (num x) (den x) ((e - 52) / 2) (den_pos x) (mul_assoc (num x) (2 ^ 1074) (2 ^ 1074) ∙ radicand)

  pub result_is : of_bits binary64 ((e - 52) / 2 * 2 ^ 52 + nearest_root n 1) ≡ sqrt x
  result_is = pattern_of (nearest_root n 1) ((e - 52) / 2) result_ge result_le (omega arith) ∙ sym root_units

-- Newton's iteration for the whole part of a square root, and the lower half of a root from its upper half. Nothing here is about floats. Assumes nothing.
use Rattle.std.proofs.Common.{◌≡◌, ℕ, zero, suc, ◌+◌, ◌-◌, ◌*◌, ◌/◌, ◌%◌, ◌^◌, ◌<◌, ◌≤◌, sym, refl, ap, ◌∙◌, subst, le_trans, le_of_eq, lt_of_lt_of_le, le_of_suc-le-suc, not-suc-le-zero, lt_of_le_of_lt, le_of_lt, add_assoc, add-suc, mul-le-mul_right, mod-lt, zero-lt-suc, mul_assoc, lt-suc_self, mul_comm, div-lt_iff_lt-mul, add-mul, mul-le-mul, add_comm, lt_of_not-le, div-add-mod', mul-add, mul_left_comm, arith}
use native.Mathlib.Nat.{le_dest, le_intro, add_left_comm, mul-mul-mul_comm, div-le_of_le-mul}
use native.Mathlib.Decide.{dec_le}
use lib.Arith.{add-le_cancel_left}
use Rattle.arith.proofs.root.Squares.{IsRoot, sq_suc, sq_lt_back}

-- ---- twice a product is at most the two squares
squares_regrouped : (a d : ℕ) → a * (a + d) + a * (a + d) + d * d ≡ (a + d) * (a + d) + a * a
squares_regrouped a d = simp (mul-add, add-mul, mul_comm, add_assoc, add_comm, add_left_comm) refl

products_le_of_le : (a b : ℕ) → a ≤ b → a * b + a * b ≤ b * b + a * a
products_le_of_le a b h = subst (λ (x : ℕ). a * x + a * x ≤ x * x + a * a) (le_dest h).1 (le_intro (a * (a + (le_dest h).0) + a * (a + (le_dest h).0)) ((le_dest h).0 * (le_dest h).0) (squares_regrouped a (le_dest h).0))

products_le : (a b : ℕ) → a * b + a * b ≤ b * b + a * a
products_le a b = either (dec_le a b)
  where
    either : Dec (a ≤ b) → a * b + a * b ≤ b * b + a * a
    either (yes h) = products_le_of_le a b h
    either (no f) =
        le_trans (le_of_eq (ap (λ (z : ℕ). z + z) (mul_comm a b)))
        (le_trans (products_le_of_le b a (le_of_lt (lt_of_not-le f))) (le_of_eq (add_comm (a * a) (b * b))))

-- with q for n / g and m for one more than the new guess
above : (n g q m : ℕ) → n < suc q * g → g + q < m + m → n < m * m
above n g q m p h =
    lt_of_lt_of_le p
    (add-le_cancel_left (g * g)
    (le_trans (le_of_eq (sym (add-mul g (suc q) g) ∙ ap (λ (x : ℕ). x * g) (add-suc g q)))
    (le_trans (mul-le-mul_right g h)
    (le_trans (le_of_eq (add-mul m m g)) (products_le m g)))))

-- the guess after a step is never below the root
pub newton_above : (n g : ℕ) → 0 < g → n < suc ((g + n / g) / 2) * suc ((g + n / g) / 2)
newton_above n g p = above n g (n / g) (suc ((g + n / g) / 2)) ((div-lt_iff_lt-mul p).0 (lt-suc_self (n / g))) (half (g + n / g))
  where
    half : (t : ℕ) → t < suc (t / 2) + suc (t / 2)
    half t = omega arith

-- a number whose square is above another is above 0
pub sq_pos : (n g : ℕ) → n < g * g → 0 < g
sq_pos n zero h = absurd (not-suc-le-zero h)
sq_pos n (suc k) h = zero-lt-suc k

-- from a guess whose square is above n a step goes down
pub quotient_lt : (n g : ℕ) → n < g * g → n / g < g
quotient_lt n g h = (div-lt_iff_lt-mul (sq_pos n g h)).1 h

-- ---- the first step, from a guess of 2 ^ 26 or more
pub first_quotient_lt : (n g : ℕ) → n < 2 ^ 54 → 2 ^ 26 ≤ g → n / g < 2 ^ 29
first_quotient_lt n g h k = (div-lt_iff_lt-mul {k = g} {x = n} {y = 2 ^ 29} (omega arith)).1 (omega arith)

-- ---- the square of a sum
sq_sum : (x l : ℕ) → (x + l) * (x + l) ≡ x * x + (l * x + l * x) + l * l
sq_sum x l = simp (mul-add, add-mul, mul_comm, add_assoc) refl

doubled : (l h c : ℕ) → l * (h * c) + l * (h * c) ≡ l * (h * 2) * c
doubled l h c = twice (l * (h * c)) ∙ simp (mul_assoc, mul_comm, mul_left_comm) refl
  where
    twice : (a : ℕ) → a + a ≡ a * 2
    twice a = omega arith

-- ---- the halves of a root: h is the whole part of n's root
module _ (n h : ℕ) (r : IsRoot n h) (lo : 2 ^ 52 ≤ n) (hi : n < 2 ^ 54) where
  pub half_ge : 2 ^ 26 ≤ h
  half_ge = le_of_suc-le-suc (sq_lt_back (2 ^ 26) (suc h) (lt_of_le_of_lt lo r.1))

  pub half_lt : h < 2 ^ 27
  half_lt = sq_lt_back h (2 ^ 27) (lt_of_le_of_lt r.0 hi)

  pub left_le : n - h * h ≤ h * 2
  left_le = go (h * h) (subst (λ (x : ℕ). n < x) (sq_suc h) r.1)
    where
      go : (s : ℕ) → n < s + 2 * h + 1 → n - s ≤ h * 2
      go s p = omega arith

  pub low_le : (n - h * h) * 2 ^ 26 / (h * 2) ≤ 2 ^ 26
  low_le = div-le_of_le-mul (h * 2) (mul-le-mul_right (2 ^ 26) left_le)

  pub rest_lt : (n - h * h) * 2 ^ 26 % (h * 2) < h * 2
  rest_lt = mod-lt ((n - h * h) * 2 ^ 26) (omega (arith, half_ge))

  abbrev low : ℕ
  low = (n - h * h) * 2 ^ 26 / (h * 2)

  abbrev rest : ℕ
  rest = (n - h * h) * 2 ^ 26 % (h * 2)

  square : (l : ℕ) → (h * 2 ^ 26 + l) * (h * 2 ^ 26 + l) ≡ h * h * 2 ^ 52 + l * (h * 2) * 2 ^ 26 + l * l
  square l =
      sq_sum (h * 2 ^ 26) l
      ∙ ap (λ (x : ℕ). x + (l * (h * 2 ^ 26) + l * (h * 2 ^ 26)) + l * l) (mul-mul-mul_comm h (2 ^ 26) h (2 ^ 26))
      ∙ ap (λ (x : ℕ). h * h * 2 ^ 52 + x + l * l) (doubled l h (2 ^ 26))

  pub halves : (h * 2 ^ 26 + low) * (h * 2 ^ 26 + low) + rest * 2 ^ 26 ≡ n * 2 ^ 52 + low * low
  halves = ap (λ (x : ℕ). x + rest * 2 ^ 26) (square low) ∙ go (h * h) (low * (h * 2)) (low * low) r.0 (div-add-mod' ((n - h * h) * 2 ^ 26) (h * 2))
    where
      go : (s p l : ℕ) → s ≤ n → p + rest ≡ (n - s) * 2 ^ 26 → s * 2 ^ 52 + p * 2 ^ 26 + l + rest * 2 ^ 26 ≡ n * 2 ^ 52 + l
      go s p l a e = omega arith

  pub low_small : low * low < h * 2 ^ 26 + low
  low_small = go low low_le half_ge (mul-le-mul low_le low_le)
    where
      go : (l : ℕ) → l ≤ 2 ^ 26 → 2 ^ 26 ≤ h → l * l ≤ 2 ^ 52 → l * l < h * 2 ^ 26 + l
      go zero a b c = omega arith
      go (suc l) a b c = big (suc l * suc l) c b
        where
          big : (s : ℕ) → s ≤ 2 ^ 52 → 2 ^ 26 ≤ h → s < h * 2 ^ 26 + suc l
          big s c b = omega arith

  -- all of that, for `omega`
  pub record Halved : Type 0 where
    pub sq : h * h ≤ n
    pub ge : 2 ^ 26 ≤ h
    pub lt : h < 2 ^ 27
    pub over : n - h * h ≤ h * 2
    pub below : low ≤ 2 ^ 26
    pub square_below : low * low ≤ 2 ^ 52
    pub remains : rest < h * 2

  pub halved : Halved
  halved = record { sq = r.0; ge = half_ge; lt = half_lt; over = left_le; below = low_le; square_below = mul-le-mul low_le low_le; remains = rest_lt }

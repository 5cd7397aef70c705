-- The law by which the series at twice an argument comes from the one at the argument: the square of the partial sum up to n, sorted by powers of i,
-- lies in each of the four parts between the partial sums up to n and up to 2 * n at twice the argument. There is no subtraction in it and no limit. Assumes nothing.
use mathlib.Core.Path.{◌≡◌, refl, sym, ap, ◌∙◌}
use Prim.Native.Nat.{ℕ, zero, suc, ◌+◌, ◌-◌, ◌*◌, ◌^◌, ◌≤◌, ◌<◌}
use native.Mathlib.Nat.{le_trans, le_of_eq, mul-add, add-mul, mul_comm, mul_assoc, mul_left_comm, zero-mul, mul-zero, mul-pos, zero-lt-suc, eq_of_mul-eq-mul_left, suc-add, zero-add, pow-suc, pow-zero, one-mul}
use native.Mathlib.Omega.{arith}
use Rattle.circle.specs.Series.{Quarter, east, north, west, south, back, at, sum, part}
use Rattle.circle.specs.Inside.Circle.{mix}
use Rattle.circle.proofs.Sums.{sum_cong, sum_mono, sum_upto, sum_add, sum_times, sum_first, sum_last, triangle}

-- ---- i ^ (n + m)
pub at_add : (t : Quarter) (n m : ℕ) → at t (n + m) ≡ mix (λ c. at c n) (λ c. at c m) t
unfolding at
at_add t zero m = ap (λ (x : ℕ). at t x) (zero-add m) ∙ go (at t m) (at (back t) m) (at (back (back t)) m) (at (back (back (back t))) m)
  where
    go : (a b c d : ℕ) → a ≡ 1 * a + 0 * b + 0 * c + 0 * d
    go a b c d = omega arith
at_add t (suc n) m = ap (λ (x : ℕ). at t x) (suc-add n m) ∙ at_add (back t) n m ∙ around t
  where
    go : (a b c d : ℕ) → a + b + c + d ≡ d + a + b + c
    go a b c d = omega arith

    around : (t : Quarter) → mix (λ c. at c n) (λ c. at c m) (back t) ≡ mix (λ c. at (back c) n) (λ c. at c m) t
    around east = go (at east n * at south m) (at north n * at west m) (at west n * at north m) (at south n * at east m)
    around north = go (at east n * at east m) (at north n * at south m) (at west n * at west m) (at south n * at north m)
    around west = go (at east n * at north m) (at north n * at east m) (at west n * at south m) (at south n * at west m)
    around south = go (at east n * at west m) (at north n * at north m) (at west n * at east m) (at south n * at south m)

-- ---- `mix` is linear in each place
pub mix_sum_left : (F : Quarter → ℕ → ℕ) (g : Quarter → ℕ) (n : ℕ) (t : Quarter) → mix (λ c. sum (F c) n) g t ≡ sum (λ (k : ℕ). mix (λ c. F c k) g t) n
unfolding sum
mix_sum_left F g zero t = refl
mix_sum_left F g (suc n) t =
    go (sum (F east) n) (F east (suc n)) (g t) (sum (F north) n) (F north (suc n)) (g (back t)) (sum (F west) n) (F west (suc n)) (g (back (back t))) (sum (F south) n) (F south (suc n)) (g (back (back (back t))))
    ∙ ap (λ (x : ℕ). x + mix (λ c. F c (suc n)) g t) (mix_sum_left F g n t)
  where
    go : (a a' p b b' q c c' r d d' s : ℕ) → (a + a') * p + (b + b') * q + (c + c') * r + (d + d') * s ≡ a * p + b * q + c * r + d * s + (a' * p + b' * q + c' * r + d' * s)
    go a a' p b b' q c c' r d d' s = rw (add-mul a a' p, add-mul b b' q, add-mul c c' r, add-mul d d' s) (fin (a * p) (a' * p) (b * q) (b' * q) (c * r) (c' * r) (d * s) (d' * s))
      where
        fin : (a a' b b' c c' d d' : ℕ) → a + a' + (b + b') + (c + c') + (d + d') ≡ a + b + c + d + (a' + b' + c' + d')
        fin a a' b b' c c' d d' = omega arith

pub mix_sum_right : (f : Quarter → ℕ) (G : Quarter → ℕ → ℕ) (n : ℕ) (t : Quarter) → mix f (λ c. sum (G c) n) t ≡ sum (λ (k : ℕ). mix f (λ c. G c k) t) n
unfolding sum
mix_sum_right f G zero t = refl
mix_sum_right f G (suc n) t =
    go (f east) (sum (G t) n) (G t (suc n)) (f north) (sum (G (back t)) n) (G (back t) (suc n)) (f west) (sum (G (back (back t))) n) (G (back (back t)) (suc n)) (f south) (sum (G (back (back (back t)))) n) (G (back (back (back t))) (suc n))
    ∙ ap (λ (x : ℕ). x + mix f (λ c. G c (suc n)) t) (mix_sum_right f G n t)
  where
    go : (p a a' q b b' r c c' s d d' : ℕ) → p * (a + a') + q * (b + b') + r * (c + c') + s * (d + d') ≡ p * a + q * b + r * c + s * d + (p * a' + q * b' + r * c' + s * d')
    go p a a' q b b' r c c' s d d' = rw (mul-add p a a', mul-add q b b', mul-add r c c', mul-add s d d') (fin (p * a) (p * a') (q * b) (q * b') (r * c) (r * c') (s * d) (s * d'))
      where
        fin : (a a' b b' c c' d d' : ℕ) → a + a' + (b + b') + (c + c') + (d + d') ≡ a + b + c + d + (a' + b' + c' + d')
        fin a a' b b' c c' d d' = omega arith

pub mix_times : (f g : Quarter → ℕ) (x y : ℕ) (t : Quarter) → mix (λ c. f c * x) (λ c. g c * y) t ≡ mix f g t * (x * y)
mix_times f g x y t = go (f east) (g t) (f north) (g (back t)) (f west) (g (back (back t))) (f south) (g (back (back (back t))))
  where
    one : (a b : ℕ) → a * x * (b * y) ≡ a * b * (x * y)
    one a b = simp (mul_assoc, mul_comm, mul_left_comm)

    go : (a a' b b' c c' d d' : ℕ) → a * x * (a' * y) + b * x * (b' * y) + c * x * (c' * y) + d * x * (d' * y) ≡ (a * a' + b * b' + c * c' + d * d') * (x * y)
    go a a' b b' c c' d d' = rw (one a a', one b b', one c c', one d d') (sym (add-mul (a * a' + b * b' + c * c') (d * d') (x * y) ∙ ap (λ (z : ℕ). z + d * d' * (x * y)) (add-mul (a * a' + b * b') (c * c') (x * y) ∙ ap (λ (z : ℕ). z + c * c' * (x * y)) (add-mul (a * a') (b * b') (x * y)))))

-- ---- the square as a sum over a square of terms
abbrev square : (ℕ → ℕ) → Quarter → ℕ → ℕ → ℕ
square u t j m = at t (j + m) * (u j * u m)

mix_square : (u : ℕ → ℕ) (n : ℕ) (t : Quarter) → mix (part u n) (part u n) t ≡ sum (λ (j : ℕ). sum (λ (m : ℕ). square u t j m) n) n
mix_square u n t =
    mix_sum_left (λ c (k : ℕ). at c k * u k) (part u n) n t
    ∙ sum_cong (λ (j : ℕ). mix (λ c. at c j * u j) (part u n) t) (λ (j : ℕ). sum (λ (m : ℕ). square u t j m) n) n (λ j l. row j)
  where
    cell : (j m : ℕ) → mix (λ c. at c j * u j) (λ c. at c m * u m) t ≡ square u t j m
    cell j m = mix_times (λ c. at c j) (λ c. at c m) (u j) (u m) t ∙ ap (λ (x : ℕ). x * (u j * u m)) (sym (at_add t j m))

    row : (j : ℕ) → mix (λ c. at c j * u j) (part u n) t ≡ sum (λ (m : ℕ). square u t j m) n
    row j = mix_sum_right (λ c. at c j * u j) (λ c (k : ℕ). at c k * u k) n t ∙ sum_cong (λ (m : ℕ). mix (λ c. at c j * u j) (λ c. at c m * u m) t) (λ (m : ℕ). square u t j m) n (λ m l. cell j m)

-- ---- the diagonals: the sum of u j * u (k - j)
abbrev diagonal : (ℕ → ℕ) → ℕ → ℕ
diagonal u k = sum (λ (j : ℕ). u j * u (k - j)) k

-- a triangle of terms is the diagonals, each with its power of i
by_diagonals : (u : ℕ → ℕ) (t : Quarter) (n : ℕ) → sum (λ (j : ℕ). sum (λ (m : ℕ). square u t j m) (n - j)) n ≡ sum (λ (k : ℕ). at t k * diagonal u k) n
by_diagonals u t n =
    sym (triangle (square u t) n)
    ∙ sum_cong (λ (k : ℕ). sum (λ (j : ℕ). square u t j (k - j)) k) (λ (k : ℕ). at t k * diagonal u k) n (λ k l. line k)
  where
    joined : (k j : ℕ) → j ≤ k → j + (k - j) ≡ k
    joined k j l = omega arith

    line : (k : ℕ) → sum (λ (j : ℕ). square u t j (k - j)) k ≡ at t k * diagonal u k
    line k =
        sum_cong (λ (j : ℕ). square u t j (k - j)) (λ (j : ℕ). at t k * (u j * u (k - j))) k (λ j l. ap (λ (x : ℕ). at t x * (u j * u (k - j))) (joined k j l))
        ∙ sym (sum_times (at t k) (λ (j : ℕ). u j * u (k - j)) k)

-- the square of terms lies between two triangles
pub triangle_under : (f : ℕ → ℕ → ℕ) (n : ℕ) → sum (λ (j : ℕ). sum (λ (m : ℕ). f j m) (n - j)) n ≤ sum (λ (j : ℕ). sum (λ (m : ℕ). f j m) n) n
triangle_under f n = sum_mono (λ (j : ℕ). sum (λ (m : ℕ). f j m) (n - j)) (λ (j : ℕ). sum (λ (m : ℕ). f j m) n) n (λ j l. sum_upto (f j) (n - j) n (go j))
  where
    go : (j : ℕ) → n - j ≤ n
    go j = omega arith

pub triangle_over : (f : ℕ → ℕ → ℕ) (n : ℕ) → sum (λ (j : ℕ). sum (λ (m : ℕ). f j m) n) n ≤ sum (λ (j : ℕ). sum (λ (m : ℕ). f j m) (n + n - j)) (n + n)
triangle_over f n =
    le_trans (sum_mono (λ (j : ℕ). sum (λ (m : ℕ). f j m) n) (λ (j : ℕ). sum (λ (m : ℕ). f j m) (n + n - j)) n (λ j l. sum_upto (f j) n (n + n - j) (go j l)))
    (sum_upto (λ (j : ℕ). sum (λ (m : ℕ). f j m) (n + n - j)) n (n + n) longer)
  where
    go : (j : ℕ) → j ≤ n → n ≤ n + n - j
    go j l = omega arith

    longer : n ≤ n + n
    longer = omega arith

-- ---- terms of which each is the one before times α / (β * n): u n / u 0 is (α / β) ^ n / n!
module _ (u : ℕ → ℕ) (α β M : ℕ) (B : 0 < β) (law : (n : ℕ) → n < M → β * (suc n * u (suc n)) ≡ α * u n) where
  -- the two ways in which a diagonal steps down to the one before
  by_first : (k : ℕ) → suc k ≤ M → β * sum (λ (j : ℕ). j * u j * u (suc k - j)) (suc k) ≡ α * diagonal u k
  by_first k h =
      ap (λ (x : ℕ). β * x) (sum_first (λ (j : ℕ). j * u j * u (suc k - j)) k ∙ none (u 0) (u (suc k - 0)) (sum (λ (j : ℕ). suc j * u (suc j) * u (suc k - suc j)) k))
      ∙ sum_times β (λ (j : ℕ). suc j * u (suc j) * u (suc k - suc j)) k
      ∙ sum_cong (λ (j : ℕ). β * (suc j * u (suc j) * u (suc k - suc j))) (λ (j : ℕ). α * (u j * u (k - j))) k step
      ∙ sym (sum_times α (λ (j : ℕ). u j * u (k - j)) k)
    where
      none : (a b s : ℕ) → 0 * a * b + s ≡ s
      none a b s = ap (λ (x : ℕ). x * b + s) (zero-mul a) ∙ ap (λ (x : ℕ). x + s) (zero-mul b) ∙ zero-add s

      down : (j : ℕ) → suc k - suc j ≡ k - j
      down j = omega arith

      step : (j : ℕ) → j ≤ k → β * (suc j * u (suc j) * u (suc k - suc j)) ≡ α * (u j * u (k - j))
      step j l =
          sym (mul_assoc β (suc j * u (suc j)) (u (suc k - suc j)))
          ∙ ap (λ (x : ℕ). x * u (suc k - suc j)) (law j (omega arith))
          ∙ ap (λ (x : ℕ). α * u j * u x) (down j)
          ∙ mul_assoc α (u j) (u (k - j))

  by_last : (k : ℕ) → suc k ≤ M → β * sum (λ (j : ℕ). u j * ((suc k - j) * u (suc k - j))) (suc k) ≡ α * diagonal u k
  by_last k h =
      ap (λ (x : ℕ). β * x) (sum_last (λ (j : ℕ). u j * ((suc k - j) * u (suc k - j))) k zero_there)
      ∙ sum_times β (λ (j : ℕ). u j * ((suc k - j) * u (suc k - j))) k
      ∙ sum_cong (λ (j : ℕ). β * (u j * ((suc k - j) * u (suc k - j)))) (λ (j : ℕ). α * (u j * u (k - j))) k step
      ∙ sym (sum_times α (λ (j : ℕ). u j * u (k - j)) k)
    where
      same : (n : ℕ) → suc n - suc n ≡ 0
      same n = omega arith

      zero_there : u (suc k) * ((suc k - suc k) * u (suc k - suc k)) ≡ 0
      zero_there = ap (λ (x : ℕ). u (suc k) * (x * u (suc k - suc k))) (same k) ∙ ap (λ (x : ℕ). u (suc k) * x) (zero-mul (u (suc k - suc k))) ∙ mul-zero (u (suc k))

      next : (j : ℕ) → j ≤ k → suc k - j ≡ suc (k - j)
      next j l = omega arith

      step : (j : ℕ) → j ≤ k → β * (u j * ((suc k - j) * u (suc k - j))) ≡ α * (u j * u (k - j))
      step j l =
          ap (λ (x : ℕ). β * (u j * (x * u x))) (next j l)
          ∙ mul_left_comm β (u j) (suc (k - j) * u (suc (k - j)))
          ∙ ap (λ (x : ℕ). u j * x) (law (k - j) (omega arith))
          ∙ mul_left_comm (u j) α (u (k - j))

  diagonal_law : (k : ℕ) → suc k ≤ M → β * (suc k * diagonal u (suc k)) ≡ α * diagonal u k + α * diagonal u k
  diagonal_law k h =
      ap (λ (x : ℕ). β * x)
      (sum_times (suc k) (λ (j : ℕ). u j * u (suc k - j)) (suc k)
      ∙ sum_cong (λ (j : ℕ). suc k * (u j * u (suc k - j))) (λ (j : ℕ). j * u j * u (suc k - j) + u j * ((suc k - j) * u (suc k - j))) (suc k) parted
      ∙ sum_add (λ (j : ℕ). j * u j * u (suc k - j)) (λ (j : ℕ). u j * ((suc k - j) * u (suc k - j))) (suc k))
      ∙ mul-add β (sum (λ (j : ℕ). j * u j * u (suc k - j)) (suc k)) (sum (λ (j : ℕ). u j * ((suc k - j) * u (suc k - j))) (suc k))
      ∙ ap (λ (x : ℕ). x + β * sum (λ (j : ℕ). u j * ((suc k - j) * u (suc k - j))) (suc k)) (by_first k h)
      ∙ ap (λ (x : ℕ). α * diagonal u k + x) (by_last k h)
    where
      split : (n j : ℕ) → j ≤ n → n ≡ j + (n - j)
      split n j l = omega arith

      go : (j d a b : ℕ) → (j + d) * (a * b) ≡ j * a * b + a * (d * b)
      go j d a b = add-mul j d (a * b) ∙ ap (λ (x : ℕ). x + d * (a * b)) (sym (mul_assoc j a b)) ∙ ap (λ (x : ℕ). j * a * b + x) (mul_left_comm d a b)

      parted : (j : ℕ) → j ≤ suc k → suc k * (u j * u (suc k - j)) ≡ j * u j * u (suc k - j) + u j * ((suc k - j) * u (suc k - j))
      parted j l = ap (λ (x : ℕ). x * (u j * u (suc k - j))) (split (suc k) j l) ∙ go j (suc k - j) (u j) (u (suc k - j))

  -- the k-th diagonal is the k-th term at twice the argument
  diagonal_is : (k : ℕ) → k ≤ M → diagonal u k ≡ u 0 * (2 ^ k * u k)
  unfolding sum
  diagonal_is zero h = ap (λ (x : ℕ). u 0 * x) (sym (ap (λ (x : ℕ). x * u 0) (pow-zero 2) ∙ one-mul (u 0)))
  diagonal_is (suc k) h =
      eq_of_mul-eq-mul_left (β * suc k) (mul-pos B (zero-lt-suc k)) (diagonal u (suc k)) (u 0 * (2 ^ suc k * u (suc k)))
      (mul_assoc β (suc k) (diagonal u (suc k))
      ∙ diagonal_law k h
      ∙ ap (λ (x : ℕ). α * x + α * x) (diagonal_is k (omega arith))
      ∙ twice (u 0) (2 ^ k) (u k)
      ∙ ap (λ (x : ℕ). u 0 * (2 ^ k * 2) * x) (sym (law k h))
      ∙ ap (λ (x : ℕ). u 0 * x * (β * (suc k * u (suc k)))) (sym (pow-suc 2 k))
      ∙ turned (u 0) (2 ^ suc k) (suc k) (u (suc k)))
    where
      twice : (w p v : ℕ) → α * (w * (p * v)) + α * (w * (p * v)) ≡ w * (p * 2) * (α * v)
      twice w p v = simp (mul_assoc, mul_comm, mul_left_comm) (omega arith)

      turned : (w p n v : ℕ) → w * p * (β * (n * v)) ≡ β * n * (w * (p * v))
      turned w p n v = simp (mul_assoc, mul_left_comm)

  -- the partial sums at twice the argument
  abbrev doubled : ℕ → ℕ
  doubled k = 2 ^ k * u k

  weighted : (t : Quarter) (n : ℕ) → n ≤ M → sum (λ (k : ℕ). at t k * diagonal u k) n ≡ u 0 * part doubled n t
  weighted t n h =
      sum_cong (λ (k : ℕ). at t k * diagonal u k) (λ (k : ℕ). u 0 * (at t k * doubled k)) n (λ k l. ap (λ (x : ℕ). at t k * x) (diagonal_is k (le_trans l h)) ∙ mul_left_comm (at t k) (u 0) (doubled k))
      ∙ sym (sum_times (u 0) (λ (k : ℕ). at t k * doubled k) n)

  pub double_low : (t : Quarter) (n : ℕ) → n ≤ M → u 0 * part (λ (k : ℕ). 2 ^ k * u k) n t ≤ mix (part u n) (part u n) t
  double_low t n h =
      le_trans (le_of_eq (sym (by_diagonals u t n ∙ weighted t n h)))
      (le_trans (triangle_under (square u t) n) (le_of_eq (sym (mix_square u n t))))

  pub double_high : (t : Quarter) (n : ℕ) → n + n ≤ M → mix (part u n) (part u n) t ≤ u 0 * part (λ (k : ℕ). 2 ^ k * u k) (n + n) t
  double_high t n h =
      le_trans (le_of_eq (mix_square u n t))
      (le_trans (triangle_over (square u t) n) (le_of_eq (by_diagonals u t (n + n) ∙ weighted t (n + n) h)))

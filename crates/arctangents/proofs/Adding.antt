-- The law by which the series at a sum of two arguments comes from those at the arguments: the product of the partial sums up to n, sorted by powers of i,
-- lies in each of the four parts between the partial sums up to n and up to 2 * n at the sum. As `Doubling`, for two arguments. Assumes nothing.
use mathlib.Core.Path.{◌≡◌, sym, ap, ◌∙◌}
use Prim.Native.Nat.{ℕ, zero, suc, ◌+◌, ◌-◌, ◌*◌, ◌≤◌, ◌<◌}
use native.Mathlib.Nat.{le_trans, le_of_eq, mul-add, add-mul, mul_assoc, mul_left_comm, zero-mul, mul-zero, mul-pos, zero-lt-suc, eq_of_mul-eq-mul_left, zero-add}
use native.Mathlib.Omega.{arith}
use Rattle.circle.specs.Series.{Quarter, at, sum, part}
use Rattle.circle.specs.Inside.Circle.{mix}
use Rattle.circle.specs.Inside.Law.{Law}
use Rattle.circle.proofs.Sums.{sum_cong, sum_add, sum_times, sum_first, sum_last, triangle}
use Rattle.circle.proofs.Doubling.{at_add, mix_sum_left, mix_sum_right, mix_times, triangle_under, triangle_over}

abbrev product : (ℕ → ℕ) → (ℕ → ℕ) → Quarter → ℕ → ℕ → ℕ
product u v t j m = at t (j + m) * (u j * v m)

mix_product : (u v : ℕ → ℕ) (n : ℕ) (t : Quarter) → mix (part u n) (part v n) t ≡ sum (λ (j : ℕ). sum (λ (m : ℕ). product u v t j m) n) n
mix_product u v n t =
    mix_sum_left (λ c (k : ℕ). at c k * u k) (part v n) n t
    ∙ sum_cong (λ (j : ℕ). mix (λ c. at c j * u j) (part v n) t) (λ (j : ℕ). sum (λ (m : ℕ). product u v t j m) n) n (λ j l. row j)
  where
    cell : (j m : ℕ) → mix (λ c. at c j * u j) (λ c. at c m * v m) t ≡ product u v t j m
    cell j m = mix_times (λ c. at c j) (λ c. at c m) (u j) (v m) t ∙ ap (λ (x : ℕ). x * (u j * v m)) (sym (at_add t j m))

    row : (j : ℕ) → mix (λ c. at c j * u j) (part v n) t ≡ sum (λ (m : ℕ). product u v t j m) n
    row j = mix_sum_right (λ c. at c j * u j) (λ c (k : ℕ). at c k * v k) n t ∙ sum_cong (λ (m : ℕ). mix (λ c. at c j * u j) (λ c. at c m * v m) t) (λ (m : ℕ). product u v t j m) n (λ m l. cell j m)

abbrev diagonal : (ℕ → ℕ) → (ℕ → ℕ) → ℕ → ℕ
diagonal u v k = sum (λ (j : ℕ). u j * v (k - j)) k

by_diagonals : (u v : ℕ → ℕ) (t : Quarter) (n : ℕ) → sum (λ (j : ℕ). sum (λ (m : ℕ). product u v t j m) (n - j)) n ≡ sum (λ (k : ℕ). at t k * diagonal u v k) n
by_diagonals u v t n =
    sym (triangle (product u v t) n)
    ∙ sum_cong (λ (k : ℕ). sum (λ (j : ℕ). product u v t j (k - j)) k) (λ (k : ℕ). at t k * diagonal u v k) n (λ k l. line k)
  where
    joined : (k j : ℕ) → j ≤ k → j + (k - j) ≡ k
    joined k j l = omega arith

    line : (k : ℕ) → sum (λ (j : ℕ). product u v t j (k - j)) k ≡ at t k * diagonal u v k
    line k =
        sum_cong (λ (j : ℕ). product u v t j (k - j)) (λ (j : ℕ). at t k * (u j * v (k - j))) k (λ j l. ap (λ (x : ℕ). at t x * (u j * v (k - j))) (joined k j l))
        ∙ sym (sum_times (at t k) (λ (j : ℕ). u j * v (k - j)) k)

module _ (u v : ℕ → ℕ) (α γ β M : ℕ) (B : 0 < β) (law : Law u α β M) (law' : Law v γ β M) where
  by_first : (k : ℕ) → suc k ≤ M → β * sum (λ (j : ℕ). j * u j * v (suc k - j)) (suc k) ≡ α * diagonal u v k
  by_first k h =
      ap (λ (x : ℕ). β * x) (sum_first (λ (j : ℕ). j * u j * v (suc k - j)) k ∙ none (u 0) (v (suc k - 0)) (sum (λ (j : ℕ). suc j * u (suc j) * v (suc k - suc j)) k))
      ∙ sum_times β (λ (j : ℕ). suc j * u (suc j) * v (suc k - suc j)) k
      ∙ sum_cong (λ (j : ℕ). β * (suc j * u (suc j) * v (suc k - suc j))) (λ (j : ℕ). α * (u j * v (k - j))) k step
      ∙ sym (sum_times α (λ (j : ℕ). u j * v (k - j)) k)
    where
      none : (a b s : ℕ) → 0 * a * b + s ≡ s
      none a b s = ap (λ (x : ℕ). x * b + s) (zero-mul a) ∙ ap (λ (x : ℕ). x + s) (zero-mul b) ∙ zero-add s

      down : (j : ℕ) → suc k - suc j ≡ k - j
      down j = omega arith

      step : (j : ℕ) → j ≤ k → β * (suc j * u (suc j) * v (suc k - suc j)) ≡ α * (u j * v (k - j))
      step j l =
          sym (mul_assoc β (suc j * u (suc j)) (v (suc k - suc j)))
          ∙ ap (λ (x : ℕ). x * v (suc k - suc j)) (law j (omega arith))
          ∙ ap (λ (x : ℕ). α * u j * v x) (down j)
          ∙ mul_assoc α (u j) (v (k - j))

  by_last : (k : ℕ) → suc k ≤ M → β * sum (λ (j : ℕ). u j * ((suc k - j) * v (suc k - j))) (suc k) ≡ γ * diagonal u v k
  by_last k h =
      ap (λ (x : ℕ). β * x) (sum_last (λ (j : ℕ). u j * ((suc k - j) * v (suc k - j))) k zero_there)
      ∙ sum_times β (λ (j : ℕ). u j * ((suc k - j) * v (suc k - j))) k
      ∙ sum_cong (λ (j : ℕ). β * (u j * ((suc k - j) * v (suc k - j)))) (λ (j : ℕ). γ * (u j * v (k - j))) k step
      ∙ sym (sum_times γ (λ (j : ℕ). u j * v (k - j)) k)
    where
      same : (n : ℕ) → suc n - suc n ≡ 0
      same n = omega arith

      zero_there : u (suc k) * ((suc k - suc k) * v (suc k - suc k)) ≡ 0
      zero_there = ap (λ (x : ℕ). u (suc k) * (x * v (suc k - suc k))) (same k) ∙ ap (λ (x : ℕ). u (suc k) * x) (zero-mul (v (suc k - suc k))) ∙ mul-zero (u (suc k))

      next : (j : ℕ) → j ≤ k → suc k - j ≡ suc (k - j)
      next j l = omega arith

      step : (j : ℕ) → j ≤ k → β * (u j * ((suc k - j) * v (suc k - j))) ≡ γ * (u j * v (k - j))
      step j l =
          ap (λ (x : ℕ). β * (u j * (x * v x))) (next j l)
          ∙ mul_left_comm β (u j) (suc (k - j) * v (suc (k - j)))
          ∙ ap (λ (x : ℕ). u j * x) (law' (k - j) (omega arith))
          ∙ mul_left_comm (u j) γ (v (k - j))

  diagonal_law : (k : ℕ) → suc k ≤ M → β * (suc k * diagonal u v (suc k)) ≡ (α + γ) * diagonal u v k
  diagonal_law k h =
      ap (λ (x : ℕ). β * x)
      (sum_times (suc k) (λ (j : ℕ). u j * v (suc k - j)) (suc k)
      ∙ sum_cong (λ (j : ℕ). suc k * (u j * v (suc k - j))) (λ (j : ℕ). j * u j * v (suc k - j) + u j * ((suc k - j) * v (suc k - j))) (suc k) parted
      ∙ sum_add (λ (j : ℕ). j * u j * v (suc k - j)) (λ (j : ℕ). u j * ((suc k - j) * v (suc k - j))) (suc k))
      ∙ mul-add β (sum (λ (j : ℕ). j * u j * v (suc k - j)) (suc k)) (sum (λ (j : ℕ). u j * ((suc k - j) * v (suc k - j))) (suc k))
      ∙ ap (λ (x : ℕ). x + β * sum (λ (j : ℕ). u j * ((suc k - j) * v (suc k - j))) (suc k)) (by_first k h)
      ∙ ap (λ (x : ℕ). α * diagonal u v k + x) (by_last k h)
      ∙ sym (add-mul α γ (diagonal u v k))
    where
      split : (n j : ℕ) → j ≤ n → n ≡ j + (n - j)
      split n j l = omega arith

      go : (j d a b : ℕ) → (j + d) * (a * b) ≡ j * a * b + a * (d * b)
      go j d a b = add-mul j d (a * b) ∙ ap (λ (x : ℕ). x + d * (a * b)) (sym (mul_assoc j a b)) ∙ ap (λ (x : ℕ). j * a * b + x) (mul_left_comm d a b)

      parted : (j : ℕ) → j ≤ suc k → suc k * (u j * v (suc k - j)) ≡ j * u j * v (suc k - j) + u j * ((suc k - j) * v (suc k - j))
      parted j l = ap (λ (x : ℕ). x * (u j * v (suc k - j))) (split (suc k) j l) ∙ go j (suc k - j) (u j) (v (suc k - j))

  -- the k-th diagonal is the k-th term at the sum, for a row w of such terms in the same unit
  module _ (w : ℕ → ℕ) (law'' : Law w (α + γ) β M) (unit : ℕ) (u0 : u 0 ≡ unit) (v0 : v 0 ≡ unit) (w0 : w 0 ≡ unit) where
    diagonal_is : (k : ℕ) → k ≤ M → diagonal u v k ≡ unit * w k
    unfolding sum
    diagonal_is zero h = ap (λ (x : ℕ). x * v 0) u0 ∙ ap (λ (x : ℕ). unit * x) (v0 ∙ sym w0)
    diagonal_is (suc k) h =
        eq_of_mul-eq-mul_left (β * suc k) (mul-pos B (zero-lt-suc k)) (diagonal u v (suc k)) (unit * w (suc k))
        (mul_assoc β (suc k) (diagonal u v (suc k))
        ∙ diagonal_law k h
        ∙ ap (λ (x : ℕ). (α + γ) * x) (diagonal_is k (omega arith))
        ∙ mul_left_comm (α + γ) unit (w k)
        ∙ ap (λ (x : ℕ). unit * x) (sym (law'' k h))
        ∙ turned (suc k) (w (suc k)))
      where
        turned : (n x : ℕ) → unit * (β * (n * x)) ≡ β * n * (unit * x)
        turned n x = simp (mul_assoc, mul_left_comm)

    weighted : (t : Quarter) (n : ℕ) → n ≤ M → sum (λ (k : ℕ). at t k * diagonal u v k) n ≡ unit * part w n t
    weighted t n h =
        sum_cong (λ (k : ℕ). at t k * diagonal u v k) (λ (k : ℕ). unit * (at t k * w k)) n (λ k l. ap (λ (x : ℕ). at t k * x) (diagonal_is k (le_trans l h)) ∙ mul_left_comm (at t k) unit (w k))
        ∙ sym (sum_times unit (λ (k : ℕ). at t k * w k) n)

    pub add_low : (t : Quarter) (n : ℕ) → n ≤ M → unit * part w n t ≤ mix (part u n) (part v n) t
    add_low t n h =
        le_trans (le_of_eq (sym (by_diagonals u v t n ∙ weighted t n h)))
        (le_trans (triangle_under (product u v t) n) (le_of_eq (sym (mix_product u v n t))))

    pub add_high : (t : Quarter) (n : ℕ) → n + n ≤ M → mix (part u n) (part v n) t ≤ unit * part w (n + n) t
    add_high t n h =
        le_trans (le_of_eq (mix_product u v n t))
        (le_trans (triangle_over (product u v t) n) (le_of_eq (by_diagonals u v t (n + n) ∙ weighted t (n + n) h)))

-- The terms of the series: each from the one before, at each power of 2 of the argument, and how small they are. Assumes nothing.
use mathlib.Core.Path.{◌≡◌, refl, sym, ap, ◌∙◌, subst}
use Prim.Native.Nat.{ℕ, zero, suc, ◌+◌, ◌-◌, ◌*◌, ◌^◌, ◌≤◌, ◌<◌}
use native.Mathlib.Nat.{le_trans, le_of_eq, mul_comm, mul_assoc, mul_left_comm, mul-le-mul_left, mul-le-mul_right, le_of_mul-le-mul_left, mul-pos, pow-suc, pow-zero, one-mul, zero-lt-suc, eq_of_mul-eq-mul_left}
use native.Mathlib.Omega.{arith}
use Rattle.circle.specs.Series.{Quarter, east, north, west, south, back, at, sum, part}
use Rattle.circle.specs.Series.{falling, term}
use Rattle.circle.specs.Inside.Law.{Law}

pub term_law : (a b M : ℕ) → Law (term a b M) a b M
unfolding falling
term_law a b M k h =
    ap (λ (x : ℕ). b * (suc k * (x * falling b M (M - suc k)))) (pow-suc a k)
    ∙ turned (a ^ k) (falling b M (M - suc k))
    ∙ ap (λ (x : ℕ). a * (a ^ k * (falling b M (M - suc k) * (b * x)))) (sym (there M k h))
    ∙ ap (λ (x : ℕ). a * (a ^ k * falling b M x)) (sym (next M k h))
  where
    next : (M k : ℕ) → k < M → M - k ≡ suc (M - suc k)
    next M k h = omega arith

    there : (M k : ℕ) → k < M → M - (M - suc k) ≡ suc k
    there M k h = omega arith

    turned : (p f : ℕ) → b * (suc k * (p * a * f)) ≡ a * (p * (f * (b * suc k)))
    turned p f = simp (mul_assoc, mul_comm, mul_left_comm)

-- twice the argument
pub doubled_law : (u : ℕ → ℕ) (α β M : ℕ) → Law u α β M → Law (λ (k : ℕ). 2 ^ k * u k) (2 * α) β M
doubled_law u α β M l k h =
    ap (λ (x : ℕ). β * (suc k * (x * u (suc k)))) (pow-suc 2 k)
    ∙ turned (2 ^ k) (suc k) (u (suc k))
    ∙ ap (λ (x : ℕ). 2 ^ k * 2 * x) (l k h)
    ∙ back_again (2 ^ k) (u k)
  where
    turned : (p n v : ℕ) → β * (n * (p * 2 * v)) ≡ p * 2 * (β * (n * v))
    turned p n v = simp (mul_assoc, mul_comm, mul_left_comm)

    back_again : (p v : ℕ) → p * 2 * (α * v) ≡ 2 * α * (p * v)
    back_again p v = simp (mul_assoc, mul_comm, mul_left_comm)

unfoldable pub level : (ℕ → ℕ) → ℕ → ℕ → ℕ
level u zero k = u k
level u (suc j) k = 2 ^ k * level u j k

pub level_law : (u : ℕ → ℕ) (α β M j : ℕ) → Law u α β M → Law (level u j) (2 ^ j * α) β M
unfolding level
level_law u α β M zero l k h = l k h ∙ ap (λ (x : ℕ). x * u k) (sym (ap (λ (x : ℕ). x * α) (pow-zero 2) ∙ one-mul α))
level_law u α β M (suc j) l k h =
    doubled_law (level u j) (2 ^ j * α) β M (level_law u α β M j l) k h
    ∙ ap (λ (x : ℕ). x * (2 ^ k * level u j k)) (sym (mul_assoc 2 (2 ^ j) α) ∙ ap (λ (x : ℕ). x * α) (mul_comm 2 (2 ^ j) ∙ sym (pow-suc 2 j)))

pub level_zero : (u : ℕ → ℕ) (j : ℕ) → level u j 0 ≡ u 0
unfolding level
level_zero u zero = refl
level_zero u (suc j) = ap (λ (x : ℕ). x * level u j 0) (pow-zero 2) ∙ one-mul (level u j 0) ∙ level_zero u j

-- ---- two rows of terms with one law are in proportion
pub proportion : (u v : ℕ → ℕ) (α β M : ℕ) → 0 < β → Law u α β M → Law v α β M → (k : ℕ) → k ≤ M → u k * v 0 ≡ v k * u 0
proportion u v α β M B l l' zero h = mul_comm (u 0) (v 0)
proportion u v α β M B l l' (suc k) h =
    eq_of_mul-eq-mul_left (β * suc k) (mul-pos B (zero-lt-suc k)) (u (suc k) * v 0) (v (suc k) * u 0)
    (step (u (suc k)) (v 0)
    ∙ ap (λ (x : ℕ). x * v 0) (l k h)
    ∙ mul_assoc α (u k) (v 0)
    ∙ ap (λ (x : ℕ). α * x) (proportion u v α β M B l l' k (omega arith))
    ∙ sym (mul_assoc α (v k) (u 0))
    ∙ ap (λ (x : ℕ). x * u 0) (sym (l' k h))
    ∙ sym (step (v (suc k)) (u 0)))
  where
    step : (a b : ℕ) → β * suc k * (a * b) ≡ β * (suc k * a) * b
    step a b = simp (mul_assoc, mul_comm, mul_left_comm)

-- ---- how small they are: the argument is at most ρ / σ
unfoldable pub factorial : ℕ → ℕ
factorial zero = 1
factorial (suc n) = factorial n * suc n

module _ (u : ℕ → ℕ) (α β M ρ σ : ℕ) (B : 0 < β) (law : Law u α β M) (small : α * σ ≤ ρ * β) where
  pub ratio : (k : ℕ) → k < M → σ * (suc k * u (suc k)) ≤ ρ * u k
  ratio k h =
      le_of_mul-le-mul_left {k = β}
      (le_trans (le_of_eq (mul_left_comm β σ (suc k * u (suc k)) ∙ ap (λ (x : ℕ). σ * x) (law k h) ∙ turn (u k)))
      (le_trans (mul-le-mul_right (u k) small) (le_of_eq (turn' (u k)))))
      B
    where
      turn : (v : ℕ) → σ * (α * v) ≡ α * σ * v
      turn v = simp (mul_assoc, mul_left_comm)

      turn' : (v : ℕ) → ρ * β * v ≡ β * (ρ * v)
      turn' v = simp (mul_assoc, mul_comm)

  pub bounded : (k : ℕ) → k ≤ M → σ ^ k * factorial k * u k ≤ ρ ^ k * u 0
  unfolding factorial
  bounded zero h = le_of_eq (ap (λ (x : ℕ). x * 1 * u 0) (pow-zero σ) ∙ ap (λ (x : ℕ). x * u 0) (sym (pow-zero ρ)))
  bounded (suc k) h =
      rw (pow-suc σ k, pow-suc ρ k)
      (le_trans (le_of_eq (turn (σ ^ k) (factorial k) (u (suc k))))
      (le_trans (mul-le-mul_left (σ ^ k * factorial k) (ratio k h))
      (le_trans (le_of_eq (mul_left_comm (σ ^ k * factorial k) ρ (u k)))
      (le_trans (mul-le-mul_left ρ (bounded k (omega arith))) (le_of_eq (turn' (ρ ^ k) (u 0)))))))
    where
      turn : (s f v : ℕ) → s * σ * (f * suc k) * v ≡ s * f * (σ * (suc k * v))
      turn s f v = simp (mul_assoc, mul_comm, mul_left_comm)

      turn' : (r v : ℕ) → ρ * (r * v) ≡ r * ρ * v
      turn' r v = simp (mul_assoc, mul_comm)

  -- from where on each is at most half of the one before
  pub halves : (k : ℕ) → k < M → 0 < ρ → 2 * ρ ≤ σ * suc k → 2 * u (suc k) ≤ u k
  halves k h r l =
      le_of_mul-le-mul_left {k = ρ}
      (le_trans (le_of_eq (turn (u (suc k)))) (le_trans (mul-le-mul_right (u (suc k)) l) (le_trans (le_of_eq (mul_assoc σ (suc k) (u (suc k)))) (ratio k h))))
      r
    where
      turn : (v : ℕ) → ρ * (2 * v) ≡ 2 * ρ * v
      turn v = simp (mul_assoc, mul_left_comm)

-- ---- what a partial sum gains by more terms
at_le : (t : Quarter) (k : ℕ) → at t k ≤ 1
unfolding at
at_le east zero = omega arith
at_le north zero = omega arith
at_le west zero = omega arith
at_le south zero = omega arith
at_le t (suc k) = at_le (back t) k

pub gain : (u : ℕ → ℕ) (t : Quarter) (N d : ℕ) → ((k : ℕ) → N ≤ k → k < N + d → 2 * u (suc k) ≤ u k) → part u (N + d) t + u (N + d) ≤ part u N t + u N
unfolding sum
gain u t N zero h = le_of_eq (ap (λ (x : ℕ). part u x t + u x) (go N))
  where
    go : (n : ℕ) → n + 0 ≡ n
    go n = omega arith
gain u t N (suc d) h =
    subst (λ (x : ℕ). part u x t + u x ≤ part u N t + u N) (shift N d)
    (step (part u (N + d) t) (at t (suc (N + d)) * u (suc (N + d))) (u (suc (N + d))) (u (N + d)) (part u N t + u N) once (h (N + d) (omega arith) (omega arith)) (gain u t N d (λ k l m. h k l (omega arith))))
  where
    shift : (n d : ℕ) → suc (n + d) ≡ n + suc d
    shift n d = omega arith

    once : at t (suc (N + d)) * u (suc (N + d)) ≤ u (suc (N + d))
    once = le_trans (mul-le-mul_right (u (suc (N + d))) (at_le t (suc (N + d)))) (le_of_eq (one-mul (u (suc (N + d)))))

    step : (p w v v' s : ℕ) → w ≤ v → 2 * v ≤ v' → p + v' ≤ s → p + w + v ≤ s
    step p w v v' s a b c = omega arith

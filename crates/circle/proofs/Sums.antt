-- Laws of sums. Assumes nothing.
use mathlib.Core.Path.{◌≡◌, refl, sym, ap, ◌∙◌, subst}
use Prim.Native.Nat.{ℕ, zero, suc, ◌+◌, ◌-◌, ◌*◌, ◌≤◌}
use native.Mathlib.Nat.{le_trans, le_of_eq, le_refl, add_assoc, add-le-add, mul-add}
use native.Mathlib.Omega.{arith}
use Rattle.circle.specs.Series.{sum}

pub sum_cong : (f g : ℕ → ℕ) (n : ℕ) → ((k : ℕ) → k ≤ n → f k ≡ g k) → sum f n ≡ sum g n
unfolding sum
sum_cong f g zero h = h 0 (le_refl 0)
sum_cong f g (suc n) h =
    ap (λ (x : ℕ). x + f (suc n)) (sum_cong f g n (λ k l. h k (omega arith)))
    ∙ ap (λ (x : ℕ). sum g n + x) (h (suc n) (le_refl (suc n)))

pub sum_mono : (f g : ℕ → ℕ) (n : ℕ) → ((k : ℕ) → k ≤ n → f k ≤ g k) → sum f n ≤ sum g n
unfolding sum
sum_mono f g zero h = h 0 (le_refl 0)
sum_mono f g (suc n) h = add-le-add (sum_mono f g n (λ k l. h k (omega arith))) (h (suc n) (le_refl (suc n)))

-- more terms
pub sum_longer : (f : ℕ → ℕ) (n d : ℕ) → sum f n ≤ sum f (n + d)
unfolding sum
sum_longer f n zero = le_of_eq (ap (λ (x : ℕ). sum f x) (go n))
  where
    go : (n : ℕ) → n ≡ n + 0
    go n = omega arith
sum_longer f n (suc d) = le_trans (sum_longer f n d) (le_trans (go (sum f (n + d)) (f (suc (n + d)))) (le_of_eq (ap (λ (x : ℕ). sum f x) (shift n d))))
  where
    go : (a b : ℕ) → a ≤ a + b
    go a b = omega arith

    shift : (n d : ℕ) → suc (n + d) ≡ n + suc d
    shift n d = omega arith

pub sum_upto : (f : ℕ → ℕ) (n m : ℕ) → n ≤ m → sum f n ≤ sum f m
sum_upto f n m h = subst (λ (x : ℕ). sum f n ≤ sum f x) (go n m h) (sum_longer f n (m - n))
  where
    go : (n m : ℕ) → n ≤ m → n + (m - n) ≡ m
    go n m h = omega arith

pub sum_add : (f g : ℕ → ℕ) (n : ℕ) → sum (λ (k : ℕ). f k + g k) n ≡ sum f n + sum g n
unfolding sum
sum_add f g zero = refl
sum_add f g (suc n) = ap (λ (x : ℕ). x + (f (suc n) + g (suc n))) (sum_add f g n) ∙ go (sum f n) (sum g n) (f (suc n)) (g (suc n))
  where
    go : (a b c d : ℕ) → a + b + (c + d) ≡ a + c + (b + d)
    go a b c d = omega arith

pub sum_times : (c : ℕ) (f : ℕ → ℕ) (n : ℕ) → c * sum f n ≡ sum (λ (k : ℕ). c * f k) n
unfolding sum
sum_times c f zero = refl
sum_times c f (suc n) = mul-add c (sum f n) (f (suc n)) ∙ ap (λ (x : ℕ). x + c * f (suc n)) (sum_times c f n)

-- a last term that is 0
pub sum_last : (f : ℕ → ℕ) (n : ℕ) → f (suc n) ≡ 0 → sum f (suc n) ≡ sum f n
unfolding sum
sum_last f n e = ap (λ (x : ℕ). sum f n + x) e ∙ go (sum f n)
  where
    go : (a : ℕ) → a + 0 ≡ a
    go a = omega arith

-- the first term apart
pub sum_first : (f : ℕ → ℕ) (n : ℕ) → sum f (suc n) ≡ f 0 + sum (λ (k : ℕ). f (suc k)) n
unfolding sum
sum_first f zero = refl
sum_first f (suc n) = ap (λ (x : ℕ). x + f (suc (suc n))) (sum_first f n) ∙ add_assoc (f 0) (sum (λ (k : ℕ). f (suc k)) n) (f (suc (suc n)))

-- a triangle, by diagonals and by rows
pub triangle : (f : ℕ → ℕ → ℕ) (n : ℕ) → sum (λ (k : ℕ). sum (λ (j : ℕ). f j (k - j)) k) n ≡ sum (λ (j : ℕ). sum (λ (m : ℕ). f j m) (n - j)) n
unfolding sum
triangle f zero = refl
triangle f (suc n) =
    ap (λ (x : ℕ). x + (sum (λ (j : ℕ). f j (suc n - j)) n + f (suc n) (suc n - suc n))) (triangle f n)
    ∙ sym (add_assoc (sum (λ (j : ℕ). sum (λ (m : ℕ). f j m) (n - j)) n) (sum (λ (j : ℕ). f j (suc n - j)) n) (f (suc n) (suc n - suc n)))
    ∙ ap (λ (x : ℕ). x + f (suc n) (suc n - suc n)) (sym (sum_add (λ (j : ℕ). sum (λ (m : ℕ). f j m) (n - j)) (λ (j : ℕ). f j (suc n - j)) n))
    ∙ ap (λ (x : ℕ). x + f (suc n) (suc n - suc n)) (sum_cong (λ (j : ℕ). sum (λ (m : ℕ). f j m) (n - j) + f j (suc n - j)) (λ (j : ℕ). sum (λ (m : ℕ). f j m) (suc n - j)) n row)
    ∙ ap (λ (x : ℕ). sum (λ (j : ℕ). sum (λ (m : ℕ). f j m) (suc n - j)) n + x) (ap (λ (y : ℕ). f (suc n) y) (same n) ∙ sym (ap (λ (y : ℕ). sum (λ (m : ℕ). f (suc n) m) y) (same n)))
  where
    same : (n : ℕ) → suc n - suc n ≡ 0
    same n = omega arith

    next : (n j : ℕ) → j ≤ n → suc n - j ≡ suc (n - j)
    next n j l = omega arith

    row : (j : ℕ) → j ≤ n → sum (λ (m : ℕ). f j m) (n - j) + f j (suc n - j) ≡ sum (λ (m : ℕ). f j m) (suc n - j)
    row j l = ap (λ (y : ℕ). sum (λ (m : ℕ). f j m) (n - j) + f j y) (next n j l) ∙ sym (ap (λ (y : ℕ). sum (λ (m : ℕ). f j m) y) (next n j l))

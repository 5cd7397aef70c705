-- Powers of 2 and of 1/2 by the power rule are exact: no product rounds. Assumes nothing.
use Rattle.std.proofs.Common.{◌≡◌, ℕ, zero, suc, ◌<◌, ◌≤◌, List, [], ◌∷◌, refl, ap, ◌∙◌, ⊎_elim, eq-or-lt_of_le, arith}
use lib.Ieee.{Float, mul, of_bits}
use Rattle.arith.specs.Double.{◌⊗◌, #0·5, #1, #2}
use Rattle.arith.specs.Powers.{power, two_to, half_to}

-- ---- an equation at each number below n, by a table
values : (ℕ → Float) → ℕ → List Float
values f zero = []
values f (suc n) = f n ∷ values f n

first : List Float → Float
first [] = #1
first (x ∷ xs) = x

others : List Float → List Float
others [] = []
others (x ∷ xs) = xs

alike : (f g : ℕ → Float) (n k : ℕ) → values f n ≡ values g n → k < n → f k ≡ g k
unfolding values first others
alike f g zero k e l = absurd (omega arith)
alike f g (suc n) k e l = ⊎_elim (λ q. rw q (ap first e)) (λ q. alike f g n k (ap others e) q) (eq-or-lt_of_le {n = k} {m = n} (omega arith))

-- ---- one factor more
doubled : values (λ n. two_to n ⊗ #2) 400 ≡ values (λ n. two_to (suc n)) 400
unfolding values mul of_bits
doubled = refl

halved : values (λ n. half_to n ⊗ #0·5) 200 ≡ values (λ n. half_to (suc n)) 200
unfolding values mul of_bits
halved = refl

-- ---- the powers
pub two_power : (n : ℕ) → n ≤ 400 → power #2 n ≡ two_to n
unfolding power of_bits
two_power zero l = refl
two_power (suc n) l = ap (λ (x : Float). x ⊗ #2) (two_power n (omega arith)) ∙ alike (λ n. two_to n ⊗ #2) (λ n. two_to (suc n)) 400 n doubled (omega arith)

pub half_power : (n : ℕ) → n ≤ 200 → power #0·5 n ≡ half_to n
unfolding power of_bits
half_power zero l = refl
half_power (suc n) l = ap (λ (x : Float). x ⊗ #0·5) (half_power n (omega arith)) ∙ alike (λ n. half_to n ⊗ #0·5) (λ n. half_to (suc n)) 200 n halved (omega arith)

-- Logarithms by squaring: `A` is m to the power 2 ^ i, and y * 2 ^ k / 2 ^ 31 is close to it from below. Assumes nothing.
use mathlib.Core.Path.{◌≡◌, refl, sym, ap, ◌∙◌, subst}
use Prim.Native.Nat.{ℕ, zero, suc, ◌+◌, ◌*◌, ◌/◌, ◌^◌, ◌≤◌, ◌<◌}
use native.Mathlib.Nat.{le_trans, le_of_eq, mul-le-mul, mul-le-mul_right, mul-le-mul_left, mul_assoc, mul_comm, mul_left_comm, mul-pos, le_of_mul-le-mul_right, pow-zero, pow-suc, two-pow-succ, one-mul}
use native.Mathlib.Omega.{arith}
use lib.Pow.{pow-add, pow_pos}
use Rattle.logarithms.specs.Inside.Logarithm.{fine, BinaryLog}
use Rattle.logarithms.proofs.Powers.{twice, power_pos}

-- ---- one turn, with every power a plain number: c is 2 ^ 31, d is 2 ^ k and h is 2 ^ b for the digit b
lower : (A y z c d h : ℕ) → 0 < c → y * d ≤ A * c → z * (c * h) ≤ y * y → z * (d * d * h) ≤ A * A * c
lower A y z c d h C p q =
    le_of_mul-le-mul_right {k = c}
    (le_trans (le_of_eq left)
    (le_trans (mul-le-mul_right (d * d) q)
    (le_trans (le_of_eq mid)
    (le_trans (mul-le-mul p p) (le_of_eq right)))))
    C
  where
    left : z * (d * d * h) * c ≡ z * (c * h) * (d * d)
    left = simp (mul_assoc, mul_comm, mul_left_comm)

    mid : y * y * (d * d) ≡ y * d * (y * d)
    mid = simp (mul_assoc, mul_left_comm)

    right : A * c * (A * c) ≡ A * A * c * c
    right = simp (mul_assoc, mul_left_comm)

-- p and q are powers of P and Q, by whose quotient a turn may fall short
upper : (A y z c d h p q P Q : ℕ) → 0 < c → A * c * p ≤ y * d * q → y * y * P ≤ z * (c * h) * Q → A * A * c * (p * p * P) ≤ z * (d * d * h) * (q * q * Q)
upper A y z c d h p q P Q C u v =
    le_of_mul-le-mul_right {k = c}
    (le_trans (le_of_eq left)
    (le_trans (mul-le-mul_right P (mul-le-mul u u))
    (le_trans (le_of_eq mid)
    (le_trans (mul-le-mul_right (d * q * (d * q)) v) (le_of_eq right)))))
    C
  where
    left : A * A * c * (p * p * P) * c ≡ A * c * p * (A * c * p) * P
    left = simp (mul_assoc, mul_comm, mul_left_comm)

    mid : y * d * q * (y * d * q) * P ≡ y * y * P * (d * q * (d * q))
    mid = simp (mul_assoc, mul_comm, mul_left_comm)

    right : z * (c * h) * Q * (d * q * (d * q)) ≡ z * (d * d * h) * (q * q * Q) * c
    right = simp (mul_assoc, mul_comm, mul_left_comm)

-- ---- the digit and the next y
pub record Turn (s b z : ℕ) : Type 0 where
  pub digit : b ≤ 1
  pub least : 2 ^ 31 ≤ z
  pub most : z < 2 ^ 32
  pub low : z * (2 ^ 31 * 2 ^ b) ≤ s
  pub high : s * 2 ^ 31 ≤ z * (2 ^ 31 * 2 ^ b) * suc (2 ^ 31)

pub turn : (s : ℕ) → 2 ^ 62 ≤ s → s < 2 ^ 64 → Turn s (s / 2 ^ 63) (s / 2 ^ (31 + s / 2 ^ 63))
turn s l u = go (s / 2 ^ 63) refl
  where
    go : (b : ℕ) → b ≡ s / 2 ^ 63 → Turn s b (s / 2 ^ (31 + b))
    go zero e = record { digit = omega arith; least = omega arith; most = omega arith; low = omega arith; high = omega arith }
    go (suc zero) e = record { digit = omega arith; least = omega arith; most = omega arith; low = omega arith; high = omega arith }
    go (suc (suc b)) e = absurd (omega arith)

-- ---- the invariant of the loop
unfoldable pub lost : ℕ → ℕ
lost zero = 1
lost (suc i) = suc (lost i + lost i)

pub record Close (m y k i : ℕ) : Type 0 where
  pub least : 2 ^ 31 ≤ y
  pub most : y < 2 ^ 32
  pub from : 52 * 2 ^ i ≤ k
  pub upto : k < 53 * 2 ^ i
  pub low : y * 2 ^ k ≤ m ^ (2 ^ i) * 2 ^ 31
  pub high : m ^ (2 ^ i) * 2 ^ 31 * (2 ^ 31) ^ lost i ≤ y * 2 ^ k * suc (2 ^ 31) ^ lost i

pub close_first : (m : ℕ) → 2 ^ 52 ≤ m → m < 2 ^ 53 → Close m (m / 2 ^ 21) 52 0
unfolding lost
close_first m l u = record {
  least = omega arith;
  most = omega arith;
  from = omega arith;
  upto = omega arith;
  low = rw (one) (omega arith);
  high = rw (one) (omega arith);
}
  where
    one : m ^ (2 ^ 0) ≡ m
    one = pow-suc m 0 ∙ ap (λ (x : ℕ). x * m) (pow-zero m) ∙ one-mul m

pub close_next : (m y k i b z : ℕ) → Close m y k i → Turn (y * y) b z → Close m z (k + k + b) (suc i)
unfolding lost
close_next m y k i b z c t = record {
  least = t.least;
  most = t.most;
  from = rw (two-pow-succ i) (go_from (2 ^ i) c.from);
  upto = rw (two-pow-succ i) (go_upto (2 ^ i) c.upto);
  low = rw (squared, powered) (lower (m ^ (2 ^ i)) y z (2 ^ 31) (2 ^ k) (2 ^ b) (pow_pos 31) c.low t.low);
  high = rw (squared, powered, lost_of (2 ^ 31), lost_of (suc (2 ^ 31))) (upper (m ^ (2 ^ i)) y z (2 ^ 31) (2 ^ k) (2 ^ b) ((2 ^ 31) ^ lost i) (suc (2 ^ 31) ^ lost i) (2 ^ 31) (suc (2 ^ 31)) (pow_pos 31) c.high t.high);
}
  where
    squared : m ^ (2 ^ suc i) ≡ m ^ (2 ^ i) * m ^ (2 ^ i)
    squared = ap (λ (x : ℕ). m ^ x) (two-pow-succ i) ∙ pow-add m (2 ^ i) (2 ^ i)

    powered : 2 ^ (k + k + b) ≡ 2 ^ k * 2 ^ k * 2 ^ b
    powered = pow-add 2 (k + k) b ∙ ap (λ (x : ℕ). x * 2 ^ b) (pow-add 2 k k)

    lost_of : (p : ℕ) → p ^ suc (lost i + lost i) ≡ p ^ lost i * p ^ lost i * p
    lost_of p = pow-suc p (lost i + lost i) ∙ ap (λ (x : ℕ). x * p) (pow-add p (lost i) (lost i))

    go_from : (w : ℕ) → 52 * w ≤ k → 52 * (w + w) ≤ k + k + b
    go_from w h = omega arith

    go_upto : (w : ℕ) → k < 53 * w → k + k + b < 53 * (w + w)
    go_upto w h = omega (arith, t.digit)

lost_lt : (i : ℕ) → lost i < 2 ^ suc i
unfolding lost
lost_lt zero = omega arith
lost_lt (suc i) = rw (two-pow-succ (suc i)) (go (2 ^ suc i) (lost_lt i))
  where
    go : (w : ℕ) → lost i < w → suc (lost i + lost i) < w + w
    go w h = omega arith

-- y is from 1 to 2 in units of c, and 2 ^ 31 turns would lose a factor of 2 at most
ends_low : (A y c d : ℕ) → 0 < c → c ≤ y → y * d ≤ A * c → d ≤ A
ends_low A y c d C h p = le_of_mul-le-mul_right {k = c} (le_trans (mul-le-mul_left d h) (le_trans (le_of_eq (mul_comm d y)) p)) C

ends_high : (A y c d p q : ℕ) → 0 < c → 0 < p → y ≤ 2 * c → q ≤ 2 * p → A * c * p ≤ y * d * q → A ≤ d * 4
ends_high A y c d p q C P h k u =
    le_of_mul-le-mul_right {k = c * p}
    (le_trans (le_of_eq (sym (mul_assoc A c p)))
    (le_trans u
    (le_trans (mul-le-mul (mul-le-mul_right d h) k) (le_of_eq same))))
    (mul-pos C P)
  where
    same : 2 * c * d * (2 * p) ≡ d * 4 * (c * p)
    same = simp (mul_assoc, mul_comm, mul_left_comm) (omega arith)

all_turns : (i : ℕ) → i ≡ 22 → 2 ^ i ≡ fine
unfolding fine
all_turns i e = ap (λ (x : ℕ). 2 ^ x) e

pub square_in : (y : ℕ) → 2 ^ 31 ≤ y → y < 2 ^ 32 → (2 ^ 62 ≤ y * y) × (y * y < 2 ^ 64)
square_in y l u = go (mul-le-mul l l) (mul-le-mul top top)
  where
    top : y ≤ 4294967295
    top = omega arith

    go : 2 ^ 31 * 2 ^ 31 ≤ y * y → y * y ≤ 4294967295 * 4294967295 → (2 ^ 62 ≤ y * y) × (y * y < 2 ^ 64)
    go p q = (p, omega (arith, q))

pub close_last : (m y k i : ℕ) → i ≡ 22 → Close m y k i → BinaryLog m k
close_last m y k i e c = record {
  low = subst (λ (w : ℕ). 2 ^ k ≤ m ^ w) at (ends_low (m ^ (2 ^ i)) y (2 ^ 31) (2 ^ k) (pow_pos 31) c.least c.low);
  high = rw (pow-add 2 k 2) (subst (λ (w : ℕ). m ^ w ≤ 2 ^ k * 4) at (ends_high (m ^ (2 ^ i)) y (2 ^ 31) (2 ^ k) ((2 ^ 31) ^ lost i) (suc (2 ^ 31) ^ lost i) (pow_pos 31) (power_pos (2 ^ 31) (lost i) (pow_pos 31)) (omega (arith, c.most)) (twice (2 ^ 31) (lost i) (pow_pos 31) short) c.high));
  least = go_least (2 ^ i) (ap (λ (x : ℕ). 2 ^ x) e) c.from;
  most = go_most (2 ^ i) (ap (λ (x : ℕ). 2 ^ x) e) c.upto;
}
  where
    at : 2 ^ i ≡ fine
    at = all_turns i e

    short : lost i + lost i ≤ 2 ^ 31
    short = go (2 ^ suc i) (ap (λ (x : ℕ). 2 ^ suc x) e) (lost_lt i)
      where
        go : (w : ℕ) → w ≡ 2 ^ 23 → lost i < w → lost i + lost i ≤ 2 ^ 31
        go w p h = omega arith

    go_least : (w : ℕ) → w ≡ 2 ^ 22 → 52 * w ≤ k → 52 * 2 ^ 22 ≤ k
    go_least w p h = omega arith

    go_most : (w : ℕ) → w ≡ 2 ^ 22 → k < 53 * w → k < 53 * 2 ^ 22
    go_most w p h = omega arith

-- Distances of numbers that may be negative, each as a difference of two natural numbers. Assumes nothing.
use mathlib.Core.Path.{◌≡◌}
use Prim.Native.Nat.{ℕ, ◌+◌, ◌-◌, ◌*◌, ◌≤◌, ◌<◌}
use native.Mathlib.Nat.{le_trans, le_of_eq, le_of_lt, lt_of_not-le, mul-add, add-mul, mul-le-mul_left, mul-le-mul_right, le_of_mul-le-mul_left}
use native.Mathlib.Decide.{dec_le}
use native.Mathlib.Omega.{arith}
use Rattle.circle.specs.Inside.Fixed.{Apart}

pub apart_trans : {p m P Q R S e f : ℕ} → Apart p m P Q e → Apart P Q R S f → Apart p m R S (e + f)
apart_trans h k = record { under = omega (arith, h, k); over = omega (arith, h, k) }

pub apart_add : {p m P Q e p' m' P' Q' f : ℕ} → Apart p m P Q e → Apart p' m' P' Q' f → Apart (p + p') (m + m') (P + P') (Q + Q') (e + f)
apart_add h k = record { under = omega (arith, h, k); over = omega (arith, h, k) }

pub apart_swap : {p m P Q e : ℕ} → Apart p m P Q e → Apart m p Q P e
apart_swap h = record { under = omega (arith, h); over = omega (arith, h) }

pub apart_wider : {p m P Q e f : ℕ} → Apart p m P Q e → e ≤ f → Apart p m P Q f
apart_wider h k = record { under = omega (arith, h, k); over = omega (arith, h, k) }

pub apart_times : {p m P Q e : ℕ} (k : ℕ) → Apart p m P Q e → Apart (k * p) (k * m) (k * P) (k * Q) (k * e)
apart_times {p} {m} {P} {Q} {e} k h = record { under = go p Q P m h.under; over = go P m p Q h.over }
  where
    go : (a b c d : ℕ) → a + b ≤ c + d + e → k * a + k * b ≤ k * c + k * d + k * e
    go a b c d l = rw (← mul-add k a b, ← mul-add k c d, ← mul-add k (c + d) e) (mul-le-mul_left k l)

pub apart_cancel : {p m P Q e : ℕ} (k : ℕ) → 0 < k → Apart (k * p) (k * m) (k * P) (k * Q) (k * e) → Apart p m P Q e
apart_cancel {p} {m} {P} {Q} {e} k K h = record { under = go p Q P m h.under; over = go P m p Q h.over }
  where
    go : (a b c d : ℕ) → k * a + k * b ≤ k * c + k * d + k * e → a + b ≤ c + d + e
    go a b c d l = le_of_mul-le-mul_left {k = k} (rw (mul-add k (c + d) e, mul-add k c d, mul-add k a b) l) K

-- ---- products
-- the same first factor
left : (a b : ℕ) {c d C D f : ℕ} → Apart c d C D f → Apart (a * c + b * d) (a * d + b * c) (a * C + b * D) (a * D + b * C) (a * f + b * f)
left a b h = apart_add (apart_times a h) (apart_times b (apart_swap h))

cross : (α β C D e k : ℕ) → α ≤ β + e → β ≤ α + e → C ≤ D + k → D ≤ C + k → α * C + β * D ≤ β * C + α * D + e * k
cross α β C D e k h h' l l' = elim (dec_le α β) [ yes y ↦ rise y | no n ↦ fall (le_of_lt (lt_of_not-le n)) ]
  where
    rise : α ≤ β → α * C + β * D ≤ β * C + α * D + e * k
    rise y = go (β - α) (omega arith) (omega arith)
      where
        go : (δ : ℕ) → β ≡ α + δ → δ ≤ e → α * C + β * D ≤ β * C + α * D + e * k
        go δ p q = rw (p, add-mul α δ D, add-mul α δ C) (sums (α * C) (α * D) (δ * D) (δ * C) (δ * k) (e * k) (le_trans (mul-le-mul_left δ l') (le_of_eq (mul-add δ C k))) (mul-le-mul_right k q))
          where
            sums : (ac ad dd dc dk ek : ℕ) → dd ≤ dc + dk → dk ≤ ek → ac + (ad + dd) ≤ ac + dc + ad + ek
            sums ac ad dd dc dk ek u v = omega arith

    fall : β ≤ α → α * C + β * D ≤ β * C + α * D + e * k
    fall y = go (α - β) (omega arith) (omega arith)
      where
        go : (δ : ℕ) → α ≡ β + δ → δ ≤ e → α * C + β * D ≤ β * C + α * D + e * k
        go δ p q = rw (p, add-mul β δ D, add-mul β δ C) (sums (β * C) (β * D) (δ * D) (δ * C) (δ * k) (e * k) (le_trans (mul-le-mul_left δ l) (le_of_eq (mul-add δ D k))) (mul-le-mul_right k q))
          where
            sums : (bc bd dd dc dk ek : ℕ) → dc ≤ dd + dk → dk ≤ ek → bc + dc + bd ≤ bc + (bd + dd) + ek
            sums bc bd dd dc dk ek u v = omega arith

-- the same second factor, whose size is at most k
right : {a b A B e : ℕ} (C D k : ℕ) → Apart a b A B e → C ≤ D + k → D ≤ C + k → Apart (a * C + b * D) (a * D + b * C) (A * C + B * D) (A * D + B * C) (e * k)
right {a} {b} {A} {B} {e} C D k h l l' =
    record { under = one (cross (a + B) (A + b) C D e k h.under h.over l l'); over = two (cross (A + b) (a + B) C D e k h.over h.under l l') }
  where
    one : (a + B) * C + (A + b) * D ≤ (A + b) * C + (a + B) * D + e * k → a * C + b * D + (A * D + B * C) ≤ A * C + B * D + (a * D + b * C) + e * k
    one g = sums (a * C) (B * C) (A * D) (b * D) (A * C) (b * C) (a * D) (B * D) (e * k) (rw (add-mul a B C, add-mul A b D, add-mul A b C, add-mul a B D) at g)
      where
        sums : (p q r s t u v w z : ℕ) → p + q + (r + s) ≤ t + u + (v + w) + z → p + s + (r + q) ≤ t + w + (v + u) + z
        sums p q r s t u v w z g = omega arith

    two : (A + b) * C + (a + B) * D ≤ (a + B) * C + (A + b) * D + e * k → A * C + B * D + (a * D + b * C) ≤ a * C + b * D + (A * D + B * C) + e * k
    two g = sums (A * C) (b * C) (a * D) (B * D) (a * C) (B * C) (A * D) (b * D) (e * k) (rw (add-mul A b C, add-mul a B D, add-mul a B C, add-mul A b D) at g)
      where
        sums : (p q r s t u v w z : ℕ) → p + q + (r + s) ≤ t + u + (v + w) + z → p + s + (r + q) ≤ t + w + (v + u) + z
        sums p q r s t u v w z g = omega arith

pub apart_mul : {a b A B e c d C D f : ℕ} → Apart a b A B e → Apart c d C D f
    → Apart (a * c + b * d) (a * d + b * c) (A * C + B * D) (A * D + B * C) (a * f + b * f + e * (c + d + f))
apart_mul {a} {b} {A} {B} {e} {c} {d} {C} {D} {f} h k = apart_trans (left a b k) (right C D (c + d + f) h (omega (arith, k)) (omega (arith, k)))

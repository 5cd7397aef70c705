-- The upper half of a product, and a term from it. Assumes nothing.
use mathlib.Core.Path.{◌≡◌}
use Prim.Native.Nat.{ℕ, ◌+◌, ◌*◌, ◌/◌, ◌%◌, ◌^◌, ◌≤◌, ◌<◌}
use native.Mathlib.Nat.{mul-add, add-mul, mul_comm, mul_assoc, mul_left_comm, mul-le-mul}
use native.Mathlib.Omega.{arith}
use Rattle.circle.specs.Inside.Fixed.{IsHigh}

abbrev pub upper : ℕ → ℕ → ℕ
upper a b = 2 * (a / 2 ^ 32 * (b / 2 ^ 32)) + a / 2 ^ 32 * (b % 2 ^ 32) / 2 ^ 31 + a % 2 ^ 32 * (b / 2 ^ 32) / 2 ^ 31

-- a * b by halves
halves : (a1 a0 b1 b0 : ℕ) → (a1 * 2 ^ 32 + a0) * (b1 * 2 ^ 32 + b0) ≡ a1 * b1 * 2 ^ 64 + (a1 * b0 + a0 * b1) * 2 ^ 32 + a0 * b0
halves a1 a0 b1 b0 = rw (add-mul (a1 * 2 ^ 32) a0 (b1 * 2 ^ 32 + b0), mul-add (a1 * 2 ^ 32) (b1 * 2 ^ 32) b0, mul-add a0 (b1 * 2 ^ 32) b0, one a1 b1, two a1 b0, two' a0 b1) (go (a1 * b1) (a1 * b0) (a0 * b1) (a0 * b0))
  where
    one : (x y : ℕ) → x * 2 ^ 32 * (y * 2 ^ 32) ≡ x * y * 2 ^ 64
    one x y = simp (mul_assoc, mul_left_comm) (omega arith)

    two : (x y : ℕ) → x * 2 ^ 32 * y ≡ x * y * 2 ^ 32
    two x y = simp (mul_assoc, mul_comm)

    two' : (x y : ℕ) → x * (y * 2 ^ 32) ≡ x * y * 2 ^ 32
    two' x y = simp (mul_assoc)

    go : (p q r s : ℕ) → p * 2 ^ 64 + q * 2 ^ 32 + (r * 2 ^ 32 + s) ≡ p * 2 ^ 64 + (q + r) * 2 ^ 32 + s
    go p q r s = omega arith

pub is_upper : (a b : ℕ) → IsHigh a b (upper a b)
is_upper a b = go (a / 2 ^ 32) (a % 2 ^ 32) (b / 2 ^ 32) (b % 2 ^ 32) (omega arith) (omega arith) (omega arith) (omega arith)
  where
    go : (a1 a0 b1 b0 : ℕ) → a ≡ a1 * 2 ^ 32 + a0 → b ≡ b1 * 2 ^ 32 + b0 → a0 < 2 ^ 32 → b0 < 2 ^ 32 → IsHigh a b (2 * (a1 * b1) + a1 * b0 / 2 ^ 31 + a0 * b1 / 2 ^ 31)
    go a1 a0 b1 b0 p q l m = rw (p, q) record {
      low = rw (halves a1 a0 b1 b0) (low (a1 * b1) (a1 * b0) (a0 * b1) (a0 * b0));
      high = rw (halves a1 a0 b1 b0) (high (a1 * b1) (a1 * b0) (a0 * b1) (a0 * b0) (mul-le-mul top top'));
    }
      where
        top : a0 ≤ 4294967295
        top = omega arith

        top' : b0 ≤ 4294967295
        top' = omega arith

        low : (x y z w : ℕ) → (2 * x + y / 2 ^ 31 + z / 2 ^ 31) * 2 ^ 63 ≤ x * 2 ^ 64 + (y + z) * 2 ^ 32 + w
        low x y z w = omega arith

        high : (x y z w : ℕ) → w ≤ 4294967295 * 4294967295 → x * 2 ^ 64 + (y + z) * 2 ^ 32 + w < (2 * x + y / 2 ^ 31 + z / 2 ^ 31 + 4) * 2 ^ 63
        high x y z w h = omega arith

-- what fits
pub record Small (a b : ℕ) : Type 0 where
  pub top : a / 2 ^ 32 * (b / 2 ^ 32) ≤ 25 * 2 ^ 58
  pub one : a / 2 ^ 32 * (b % 2 ^ 32) ≤ 5 * 2 ^ 61
  pub other : a % 2 ^ 32 * (b / 2 ^ 32) ≤ 5 * 2 ^ 61

pub small : (a b : ℕ) → a ≤ 5 * 2 ^ 61 → b ≤ 5 * 2 ^ 61 → Small a b
small a b h k =
    let p : a / 2 ^ 32 ≤ 5 * 2 ^ 29 = omega arith in
    let q : a % 2 ^ 32 ≤ 2 ^ 32 = omega arith in
    let r : b / 2 ^ 32 ≤ 5 * 2 ^ 29 = omega arith in
    let s : b % 2 ^ 32 ≤ 2 ^ 32 = omega arith in
    record { top = mul-le-mul p r; one = mul-le-mul p s; other = mul-le-mul q r }

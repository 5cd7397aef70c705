-- The square of a double below 1. Assumes nothing.
use mathlib.Core.Path.{◌≡◌, sym, ap, ◌∙◌}
use Prim.Native.Nat.{ℕ, suc, ◌+◌, ◌*◌, ◌/◌, ◌^◌, ◌≤◌, ◌<◌}
use native.Mathlib.Nat.{le_trans, le_of_eq, le_of_lt, mul_assoc, mul-le-mul, mul-le-mul_right, le_of_mul-le-mul_right, suc-mul, mul_right_comm, div-mul-le_self, lt-div-mul-add, div-le_self, lt_of_le_of_lt}
use lib.Pow.{pow_pos}
use Rattle.circle.specs.Inside.Fixed.{IsHigh}
use Rattle.sines.specs.Inside.Small.{IsSquare}
use Rattle.circle.proofs.Alternate.{rooted}

pub is_square : (m k q : ℕ) → m < 2 ^ 63 → IsHigh (m / 2 ^ k) (m / 2 ^ k) q → IsSquare m k q
is_square m k q M i = go (m / 2 ^ k) (div-mul-le_self m (2 ^ k)) (lt-div-mul-add (pow_pos k)) (lt_of_le_of_lt (div-le_self m (2 ^ k)) M) i
  where
    go : (y : ℕ) → y * 2 ^ k ≤ m → m < y * 2 ^ k + 2 ^ k → y < 2 ^ 63 → IsHigh y y q → IsSquare m k q
    go y l u s i = record {
      most = le_of_mul-le-mul_right {k = 2 ^ 63} (le_trans i.low (mul-le-mul (le_of_lt s) (le_of_lt s))) (pow_pos 63);
      near = λ a b e.
          let r = rooted (2 ^ 63) a b y q (pow_pos 63) s
          (le_of_mul-le-mul_right {k = 2 ^ k} (le_trans (le_of_eq (turn y b)) (le_trans (mul-le-mul_right b l) (le_of_eq (sym e ∙ sym (mul_assoc a (2 ^ 63) (2 ^ k)))))) (pow_pos k))
          (le_of_mul-le-mul_right {k = 2 ^ k} (le_trans (le_of_eq (mul_assoc a (2 ^ 63) (2 ^ k) ∙ e)) (le_trans (mul-le-mul_right b (le_of_lt u)) (le_of_eq (ap (λ (x : ℕ). x * b) (sym (suc-mul y (2 ^ k))) ∙ sym (turn (suc y) b))))) (pow_pos k))
          i.low (le_of_lt i.high) in
          record { low = r.0; high = r.1 };
    }
      where
        turn : (y b : ℕ) → y * b * 2 ^ k ≡ y * 2 ^ k * b
        turn y b = mul_right_comm y b (2 ^ k)

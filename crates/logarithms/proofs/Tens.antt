-- The decimal logarithm of 2 lies from 21306 / 70777 to 76573 / 254370. Assumes nothing.
use mathlib.Core.Path.{sym, ap, ◌∙◌}
use Prim.Native.Nat.{ℕ, suc, ◌+◌, ◌*◌, ◌/◌, ◌^◌, ◌≤◌, ◌<◌}
use native.Mathlib.Nat.{le_trans, le_of_eq, mul_comm, pow-le-pow_left, pow-le-pow_right, zero-lt-suc}
use native.Mathlib.Omega.{arith}
use lib.Dec.{leb→le}
use Rattle.logarithms.specs.Inside.Logarithm.{TenLog}
use Rattle.logarithms.proofs.Powers.{pow_of_pow, root_le}

under : 10 ^ 21306 ≤ 2 ^ 70777
under = leb→le (10 ^ 21306) (2 ^ 70777) tt

over : 2 ^ 254370 ≤ 10 ^ 76573
over = leb→le (2 ^ 254370) (10 ^ 76573) tt

-- a ^ p ≤ b ^ q, and r / u is at most p / q: then a ^ r ≤ b ^ u
pub compared : (a b p q r u : ℕ) → 0 < a → 0 < q → a ^ p ≤ b ^ q → r * q ≤ u * p → a ^ r ≤ b ^ u
compared a b p q r u A Q h k =
    root_le (a ^ r) (b ^ u) q Q
    (le_trans (le_of_eq (pow_of_pow a r q))
    (le_trans (pow-le-pow_right A k)
    (le_trans (le_of_eq (ap (λ (x : ℕ). a ^ x) (mul_comm u p) ∙ sym (pow_of_pow a p u)))
    (le_trans (pow-le-pow_left h u)
    (le_of_eq (pow_of_pow b q u ∙ ap (λ (x : ℕ). b ^ x) (mul_comm q u) ∙ sym (pow_of_pow b u q)))))))

pub ten_log_is : (u : ℕ) → u < 0x1_1000_0000 → TenLog u (u * 21306 / 70777)
ten_log_is u h = go (u * 21306 / 70777) (omega arith) (omega arith)
  where
    go : (r : ℕ) → r * 70777 ≤ u * 21306 → u * 21306 < suc r * 70777 → TenLog u r
    go r l k = record {
      low = compared 10 2 21306 70777 r u (zero-lt-suc 9) (zero-lt-suc 70776) under l;
      high = compared 2 10 254370 76573 (u + 2) (r + 3) (zero-lt-suc 1) (zero-lt-suc 76572) over (omega arith);
      most = omega arith;
    }

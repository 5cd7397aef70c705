-- Logarithms of whole numbers. Definitions only.
use Rattle.std.specs.Prelude.{ℕ, ◌+◌, ◌*◌, ◌^◌, ◌≤◌, ◌<◌}

-- How finely logarithms are counted: k stands for k / fine. It is shut, so that no power with this exponent is ever computed.
unfoldable pub fine : ℕ
fine = 2 ^ 22

-- k / fine is the binary logarithm of m, or less than that by at most 2 / fine
pub record BinaryLog (m k : ℕ) : Type 0 where
  pub low : 2 ^ k ≤ m ^ fine
  pub high : m ^ fine ≤ 2 ^ (k + 2)
  pub least : 52 * 2 ^ 22 ≤ k
  pub most : k < 53 * 2 ^ 22

-- r / fine is the decimal logarithm of 2 ^ (u / fine), or less than that by at most 3 / fine, with room for two more of u
pub record TenLog (u r : ℕ) : Type 0 where
  pub low : 10 ^ r ≤ 2 ^ u
  pub high : 2 ^ (u + 2) ≤ 10 ^ (r + 3)
  pub most : r < 2 ^ 31

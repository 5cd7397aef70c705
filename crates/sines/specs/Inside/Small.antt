-- A double below 1, and its square. Definitions only.
use Rattle.std.specs.Prelude.{ℕ, ◌-◌, ◌*◌, ◌^◌, ◌≤◌, ◌<◌, ◌≡◌}
use Rattle.circle.specs.Inside.Horner.{IsRoot}

-- a / b, from 2 ^ -27 to 1, is m / 2 ^ (63 + k), and m has 63 digits, the last ten of them 0
pub record IsSplit (a b m k : ℕ) : Type 0 where
  pub least : 2 ^ 62 ≤ m
  pub most : m ≤ 2 ^ 63 - 2 ^ 10
  pub shift : k ≤ 26
  pub below : a < b
  pub value : a * (2 ^ 63 * 2 ^ k) ≡ m * b

-- q is the square of m / 2 ^ (63 + k)
pub record IsSquare (m k q : ℕ) : Type 0 where
  pub most : q ≤ 2 ^ 63
  pub near : (a b : ℕ) → a * (2 ^ 63 * 2 ^ k) ≡ m * b → IsRoot a b q

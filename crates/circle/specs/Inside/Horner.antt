-- The series of cosine and sine by Horner's rule, in units of 2 ^ -63. Definitions only.
use Rattle.std.specs.Prelude.{ℕ, ◌+◌, ◌*◌, ◌^◌, ◌≤◌, ◌<◌, ◌≡◌}
use Rattle.circle.specs.Series.{east, west, part}
use Rattle.circle.specs.Inside.Fixed.{Apart}
use Rattle.circle.specs.Inside.Law.{Law}

-- r is 1 - g * q / n, or more by less than 6
pub record IsHorner (g q n r : ℕ) : Type 0 where
  pub taken : ℕ
  pub whole : r + taken ≡ 2 ^ 63
  pub low : taken * n * 2 ^ 63 ≤ g * q
  pub high : g * q ≤ (taken * n + n + 3) * 2 ^ 63

-- q is the square of a / b, or less by at most 6
pub record IsRoot (a b q : ℕ) : Type 0 where
  pub low : q * (b * b) ≤ a * a * 2 ^ 63
  pub high : a * a * 2 ^ 63 ≤ (q + 6) * (b * b)

-- r is, within e, the alternating sum of the terms from the k-th on, two places apart, by its first term: 1 - x ^ 2 / ((k + 1) * (k + 2)) + .., for a root x of q.
-- At k = 0 it is the cosine, and at k = 1 the sine over x. It holds of an x up to 1 / w, and of z terms or more.
pub record Alternating (w q k e z r : ℕ) : Type 0 where
  pub most : r ≤ 2 ^ 63
  pub near : (u : ℕ → ℕ) (a b M d : ℕ) → 0 < b → a * w ≤ b → Law u a b M → IsRoot a b q → z ≤ d → k + d ≤ M
      → Apart (r * u k) (0 * u k) (part (λ (j : ℕ). u (k + j)) d east * 2 ^ 63) (part (λ (j : ℕ). u (k + j)) d west * 2 ^ 63) (e * u k)

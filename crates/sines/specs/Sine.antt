-- What `sine` and `cosine` give. Definitions only.
-- A double x that is not negative is the fraction num x / den x. Every partial sum of its series from the 600-th on lies within 2 ^ -40 of r. Sine and cosine are the limits of these sums, so they lie there too. (At x = 200 the 600-th term is below 2 ^ -91.)
use Rattle.std.specs.Prelude.{ℕ, ◌≤◌, ◌≡◌, Bool, false, not, ◌&&◌, T, pos, negsuc, Float}
use Rattle.std.specs.Float.{nan, fin}
use Rattle.std.specs.Float.Ieee.{le, lt}
use Rattle.std.specs.Float.Ieee.Positive.{num, den}
use Rattle.circle.specs.Series.{east, north, west, south, part, term}
use Rattle.circle.specs.Within.{Within}

-- the terms of x's series up to the n-th
abbrev pub terms : Float → ℕ → ℕ → ℕ
terms x n = term (num x) (den x) n

abbrev pub IsCosine : Float → Float → Type 0
IsCosine x r = (n : ℕ) → 600 ≤ n → Within r (part (terms x n) n east) (part (terms x n) n west) (terms x n 0) 1 1

-- within 2 ^ -40, and within 2 ^ -40 times x, which is the closer of the two below 1
abbrev pub IsSine : Float → Float → Type 0
IsSine x r = (n : ℕ) → 600 ≤ n
    → Within r (part (terms x n) n north) (part (terms x n) n south) (terms x n 0) 1 1
    × Within r (part (terms x n) n north) (part (terms x n) n south) (terms x n 0) (num x) (den x)

-- from 0 (-0 included) to 200, which is 25 * 2 ^ 3
abbrev pub in_range : Float → Bool
in_range x = le (fin false 0 (pos 0)) x && le x (fin false 25 (pos 3))

-- below 2 ^ -27
abbrev pub is_tiny : Float → Bool
is_tiny x = lt x (fin false 1 (negsuc 26))

pub record Cosine (x r : Float) : Type 0 where
  pub near : T (in_range x) → IsCosine x r
  pub tiny : T (in_range x) → T (is_tiny x) → r ≡ fin false 1 (pos 0)
  pub outside : T (not (in_range x)) → r ≡ nan

pub record Sine (x r : Float) : Type 0 where
  pub near : T (in_range x) → IsSine x r
  pub tiny : T (in_range x) → T (is_tiny x) → r ≡ x
  pub outside : T (not (in_range x)) → r ≡ nan

-- The cosine and the sine by doubling, in units of 2 ^ -63. Definitions only.
use Rattle.std.specs.Prelude.{ℕ, zero, suc, ◌+◌, ◌-◌, ◌*◌, ◌%◌, ◌^◌, ◌≤◌, ◌<◌, ◌≡◌}
use Rattle.circle.specs.Series.{Quarter, east, north, west, south, back, part, term}
use Rattle.circle.specs.Inside.Fixed.{Apart}
use Rattle.circle.specs.Inside.Signed.{plus, less}
use Rattle.circle.specs.Inside.Law.{Law}
use Rattle.circle.specs.Inside.Horner.{Alternating}

-- the product of two such sorted sums, sorted in its turn
abbrev pub mix : (Quarter → ℕ) → (Quarter → ℕ) → Quarter → ℕ
mix f g t = f east * g t + f north * g (back t) + f west * g (back (back t)) + f south * g (back (back (back t)))

-- What one doubling makes of a cosine and a sine in units of 2 ^ -63: the difference of the squares, and twice the product.
pub record IsDoubled (cn c sn s cn' c' sn' s' : ℕ) : Type 0 where
  pub cosine : Apart (plus cn' c' * 2 ^ 63) (less cn' c' * 2 ^ 63) (c * c) (s * s) (4 * 2 ^ 63)
  pub sign : cn' ≤ 1
  pub sine_low : s' * 2 ^ 63 ≤ 2 * (c * s)
  pub sine_high : 2 * (c * s) ≤ (s' + 8) * 2 ^ 63
  pub sine_sign : sn' ≡ (cn + sn) % 2

-- cp - cm and sp - sm, in units of 1 / G, are within ε of the partial sums up to N, in units of 1 / W
pub record State (v : ℕ → ℕ) (W N G ε cp cm sp sm : ℕ) : Type 0 where
  pub cosine : Apart (cp * W) (cm * W) (part v N east * G) (part v N west * G) (ε * W)
  pub sine : Apart (sp * W) (sm * W) (part v N north * G) (part v N south * G) (ε * W)

-- r is the cosine of the root of q, up to 1 / 10, and 1 less about half of q
pub record IsCosineSum (q r : ℕ) : Type 0 where
  pub sum : Alternating 10 q 0 7 12 r
  pub taken : ℕ
  pub whole : r + taken ≡ 2 ^ 63
  pub most : taken * 2 ≤ q
  pub least : 12 * (q * 2 ^ 63) ≤ 24 * (taken * 2 ^ 63) + q * q + 60 * 2 ^ 63

-- c and s are the cosine and the sine of an argument whose whole part in units of 2 ^ -63 is y, for a y of at most 200 / 2048 of that, in the same units
pub record IsFirst (y c s : ℕ) : Type 0 where
  pub near : (u : ℕ → ℕ) (α β M N : ℕ) → 0 < β → Law u α β M → 0 < u 0 → y * β ≤ α * 2 ^ 63 → α * 2 ^ 63 ≤ suc y * β → 12 ≤ N → N ≤ M → State u (u 0) N (2 ^ 63) 16 c 0 s 0
  pub size : c * c + s * s ≤ 2 ^ 126 + 2 ^ 112

-- the error after j doublings, in units of 2 ^ -63
unfoldable pub error : ℕ → ℕ
error zero = 16
error (suc j) = 3 * error j + 9

-- the same of y / 2 ^ (63 - doublings), with signs, for a y of at most 200 * 2 ^ 52: the whole part of a / b * 2 ^ 52
abbrev pub IsCircle : ℕ → ℕ → ℕ → ℕ → ℕ → ℕ → Type 0
IsCircle y doublings cn c sn s = (a b N : ℕ) → 0 < b → a ≤ 200 * b → y * b ≤ a * 2 ^ 52 → a * 2 ^ 52 ≤ suc y * b → 600 ≤ N
    → State (term a (b * 2 ^ (11 - doublings)) N) (term a (b * 2 ^ (11 - doublings)) N 0) N (2 ^ 63) (error doublings) (plus cn c) (less cn c) (plus sn s) (less sn s)

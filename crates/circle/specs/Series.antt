-- What a partial sum of the series of sine and cosine is, over whole numbers. Definitions only.
-- cos x + i sin x has the terms i ^ k * x ^ k / k!. Sorted by the four values of i ^ k they are four sums of numbers that are not negative: the cosine is the sum at 1 less the sum at -1, and the sine is the sum at i less the sum at -i.
use Rattle.std.specs.Prelude.{ℕ, zero, suc, ◌+◌, ◌-◌, ◌*◌, ◌^◌}

-- the four values of i ^ k by where they lie in the plane: 1, i, -1 and -i
pub data Quarter : Type 0 where
  east north west south : Quarter

-- a quarter's turn back: c / i
abbrev pub back : Quarter → Quarter
back east = south
back north = east
back west = north
back south = west

abbrev pub start : Quarter → ℕ
start east = 1
start north = 0
start west = 0
start south = 0

-- 1 where i ^ k is c, and 0 elsewhere
unfoldable pub at : Quarter → ℕ → ℕ
at c zero = start c
at c (suc k) = at (back c) k

-- f 0 + f 1 + .. + f n
unfoldable pub sum : (ℕ → ℕ) → ℕ → ℕ
sum f zero = f 0
sum f (suc n) = sum f n + f (suc n)

-- the terms u k up to the n-th for which i ^ k is c
abbrev pub part : (ℕ → ℕ) → ℕ → Quarter → ℕ
part u n c = sum (λ (k : ℕ). at c k * u k) n

-- the product of b * i for the last d numbers i up to n
unfoldable pub falling : ℕ → ℕ → ℕ → ℕ
falling b n zero = 1
falling b n (suc d) = falling b n d * (b * (n - d))

-- (a / b) ^ k / k! for k up to n, in units of 1 / (b ^ n * n!): it is a ^ k times b ^ (n - k) * n! / k!. At k = 0 it is the unit itself.
abbrev pub term : ℕ → ℕ → ℕ → ℕ → ℕ
term a b n k = a ^ k * falling b n (n - k)

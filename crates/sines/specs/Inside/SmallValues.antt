-- What the functions of `small` give, bit for bit. Definitions only.
use Rattle.std.specs.Prelude.{ℕ, ◌+◌, ◌-◌, ◌*◌, ◌/◌, ◌^◌, Float}
use Prim.Native.Nat.{min}
use Rattle.arith.specs.Double.{◌⊘◌, dbl}
use Rattle.circle.specs.Inside.FixedValues.{unpacked, high, horner, parts, guarded, tested}

pub record Share : Type 0 where
  pub m : ℕ
  pub k : ℕ

abbrev pub share : ℕ → ℕ → Share
share m k = record { m = m; k = k }

-- x as m / 2 ^ (63 + k), with an m of 63 binary digits
unfoldable pub split : Float → Share
split x =
    let s = unpacked x in
    record { m = s.m * 2 ^ 10; k = 2095 - s.e }

-- the square of m / 2 ^ (63 + k), in units of 2 ^ -63
unfoldable pub own_square : ℕ → ℕ → ℕ
own_square m k =
    let y = m / 2 ^ k in
    high y y

-- the cosine of the root of q, by its series to the 20th power
unfoldable pub even_sum : ℕ → ℕ
even_sum q =
    let g18 = horner (2 ^ 63) q 380 in
    let g16 = horner g18 q 306 in
    let g14 = horner g16 q 240 in
    let g12 = horner g14 q 182 in
    let g10 = horner g12 q 132 in
    let g8 = horner g10 q 90 in
    let g6 = horner g8 q 56 in
    let g4 = horner g6 q 30 in
    let g2 = horner g4 q 12 in
    horner g2 q 2

-- the sine of the root of q over that root, by its series to the 21st power
unfoldable pub odd_sum : ℕ → ℕ
odd_sum q =
    let g19 = horner (2 ^ 63) q 420 in
    let g17 = horner g19 q 342 in
    let g15 = horner g17 q 272 in
    let g13 = horner g15 q 210 in
    let g11 = horner g13 q 156 in
    let g9 = horner g11 q 110 in
    let g7 = horner g9 q 72 in
    let g5 = horner g7 q 42 in
    let g3 = horner g5 q 20 in
    horner g3 q 6

-- m / 2 ^ (53 + k)
unfoldable pub placed : ℕ → ℕ → Float
placed m k = parts m ⊘ dbl (2 ^ (k + 1))

-- n with 1024 more, or the largest number of 53 binary digits
unfoldable pub upper : ℕ → ℕ
upper n = min (n + 1024) (2 ^ 53 - 1)

-- the guess, where it lies from n - 1024 to n + 1024 in units of 2 ^ -(53 + k), and the lower of these where it does not
unfoldable pub tested_share : Float → ℕ → ℕ → Float
tested_share guess n k = guarded guess (placed (n - 1024) k) (placed (upper n) k)

-- the sine of x: the guess, where the series proves it
unfoldable pub low_sine : Float → Float → Float
low_sine x guess =
    let p = split x in
    tested_share guess ((high p.m (odd_sum (own_square p.m p.k)) + 512) / 2 ^ 10) p.k

-- the cosine of x: the guess, where the series proves it
unfoldable pub low_cosine : Float → Float → Float
low_cosine x guess =
    let p = split x in
    tested guess 0 ((even_sum (own_square p.m p.k) + 1024) / 2 ^ 11)

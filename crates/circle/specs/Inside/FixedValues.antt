-- What the functions of `fixed` give, bit for bit. Definitions only.
use Rattle.std.specs.Prelude.{ℕ, ◌+◌, ◌-◌, ◌*◌, ◌/◌, ◌%◌, ◌^◌, cond, ◌&&◌, eqb, ltb, Float}
use Rattle.std.specs.Float.Ieee.{neg, le}
use Rattle.arith.specs.Double.{◌⊘◌, dbl, bits, bits_of}
use Rattle.arith.specs.Inside.Scaled.{Parts, scaled}

-- a finite x above zero as m and e
unfoldable pub unpacked : Float → Parts
unpacked x = scaled (bits_of x)

-- a * b / 2 ^ 63, from the halves of a and b without the product of the two lower ones
unfoldable pub high : ℕ → ℕ → ℕ
high a b = 2 * (a / 2 ^ 32 * (b / 2 ^ 32)) + a / 2 ^ 32 * (b % 2 ^ 32) / 2 ^ 31 + a % 2 ^ 32 * (b / 2 ^ 32) / 2 ^ 31

-- a step of Horner's rule
unfoldable pub horner : ℕ → ℕ → ℕ → ℕ
horner g q n = 2 ^ 63 - high g q / n

-- n / 2 ^ 52
unfoldable pub parts : ℕ → Float
parts n = dbl n ⊘ bits 0x4330_0000_0000_0000

-- the guess, where it lies from low to up, and low where it does not
unfoldable pub guarded : Float → Float → Float → Float
guarded guess low up = cond (le low guess && le guess up) guess low

-- n / 2 ^ 52 less 2 ^ -42
unfoldable pub lowered : ℕ → Float
lowered n = cond (ltb n 1024) (neg (parts (1024 - n))) (parts (n - 1024))

-- the guess, where it is within 2 ^ -42 of n / 2 ^ 52, or of its negation for a sign other than 0
unfoldable pub tested : Float → ℕ → ℕ → Float
tested guess sign n = cond (eqb sign 0) (guarded guess (lowered n) (parts (n + 1024))) (guarded guess (neg (parts (n + 1024))) (neg (lowered n)))

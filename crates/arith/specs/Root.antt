-- IEEE 754's squareRoot of a double, over whole numbers. Definitions only: `NearestRoot.antt` says in plain terms what it is to be the double nearest to a root, and `proofs/root/Nearest.antt` shows that `sqrt` gives that double.
use Rattle.std.specs.Prelude.{ℕ, zero, suc, ◌+◌, ◌-◌, ◌*◌, ◌/◌, ◌^◌, true, false, cond, nat_le, Float}
use Prim.Native.Nat.{compare}
use Rattle.std.specs.Float.{nan, inf, fin, binary64}
use Rattle.std.specs.Float.Ieee.{prec, low, up, down, size, nearest, units}

-- how many binary digits the whole part of n's square root has: half as many as n, rounded up
abbrev pub root_size : ℕ → ℕ
root_size n = (size n + 1) / 2

-- r, or the next number up where the square of that is still at most n
abbrev pub extend : ℕ → ℕ → ℕ
extend n r = cond (nat_le (suc r * suc r) n) (suc r) r

-- The whole part of the square root of n, which has at most d binary digits, digit by digit: the root of n / 4, doubled, is the root of n or one less.
unfoldable pub root_digits : ℕ → ℕ → ℕ
root_digits zero n = 0
root_digits (suc d) n = extend n (2 * root_digits d (n / 4))

-- the whole part of the square root of n: the greatest number whose square is at most n
unfoldable pub floor_root : ℕ → ℕ
unfolding root_digits size
floor_root n = root_digits (root_size n) n

-- The whole number nearest to the square root of a / b, for a b above 0. Half-way between q and the next number up lies (2 * q + 1) / 2,
-- so the root is compared with it by comparing a / b with a quarter of the square of 2 * q + 1. A tie goes to the even one.
unfoldable pub nearest_root : ℕ → ℕ → ℕ
unfolding floor_root
nearest_root a b =
    let q = floor_root (a / b) in
    nearest q (compare (a * 4) ((2 * q + 1) * (2 * q + 1) * b))

-- The double nearest to the square root of num / den, for a den above 0. In units of the smallest double, 2 ^ -1074, it is the root of n / den.
-- Of that root's whole part a double keeps the 53 leading digits and drops k. So the result is a multiple of 2 ^ k units, as in the rounding of a sum or a product:
-- the root of n / den divided by 2 ^ k is the root of n / (den * 4 ^ k).
unfoldable pub rounded_root : ℕ → ℕ → Float
unfolding nearest_root size units
rounded_root num den =
    let n = num * 2 ^ low binary64 * 2 ^ low binary64 in
    let k = root_size (n / den) - prec binary64 in
    units binary64 false (nearest_root n (den * 4 ^ k)) k

-- squareRoot of IEEE 754: of a zero the same zero, and of anything else below zero no number
unfoldable pub sqrt : Float → Float
unfolding rounded_root
sqrt nan = nan
sqrt (inf false) = inf false
sqrt (inf true) = nan
sqrt (fin s zero e) = fin s zero e
sqrt (fin true (suc m) e) = nan
sqrt (fin false (suc m) e) = rounded_root (suc m * up e) (down e)

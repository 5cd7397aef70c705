-- What the functions of `logarithms` give, bit for bit. Definitions only.
use Rattle.std.specs.Prelude.{ℕ, zero, suc, ◌+◌, ◌-◌, ◌*◌, ◌/◌, ◌^◌, true, false, cond, ltb, Float}
use Rattle.std.specs.Float.{nan, inf}
use Rattle.std.specs.Float.Ieee.{neg, lt, eq}
use Rattle.arith.specs.Double.{◌⊕◌, ◌⊖◌, ◌⊗◌, ◌⊘◌, dbl, bits, #0, #0·5, #1, #2, #3, #5}
use Rattle.circle.specs.Inside.FixedValues.{unpacked, guarded}

-- what a turn of the loop of `binary_log` changes: y / 2 ^ 31 from 1 to 2, whose digits are still to be taken, and the digits k so far
pub record Turned : Type 0 where
  pub y : ℕ
  pub k : ℕ

-- both after i turns
unfoldable pub turned : ℕ → ℕ → Turned
turned m zero = record { y = m / 2 ^ 21; k = 52 }
turned m (suc i) =
    let s = turned m i in
    let square = s.y * s.y in
    let digit = square / 2 ^ 63 in
    record { y = square / 2 ^ (31 + digit); k = s.k + s.k + digit }

-- the binary logarithm of m in units of 2 ^ -22
unfoldable pub binary_log : ℕ → ℕ
binary_log m = (turned m 22).k

-- u times the decimal logarithm of 2
unfoldable pub ten_log : ℕ → ℕ
ten_log u = u * 21306 / 70777

-- n / 2 ^ 22
unfoldable pub parts : ℕ → Float
parts n = dbl n ⊘ bits 0x4150_0000_0000_0000

-- ---- constants of the guess, by their bits
abbrev #7 : Float
#7 = bits 0x401c_0000_0000_0000

abbrev #9 : Float
#9 = bits 0x4022_0000_0000_0000

abbrev #11 : Float
#11 = bits 0x4026_0000_0000_0000

abbrev #13 : Float
#13 = bits 0x402a_0000_0000_0000

abbrev #15 : Float
#15 = bits 0x402e_0000_0000_0000

abbrev #17 : Float
#17 = bits 0x4031_0000_0000_0000

abbrev #19 : Float
#19 = bits 0x4033_0000_0000_0000

abbrev #21 : Float
#21 = bits 0x4035_0000_0000_0000

abbrev #2096 : Float
#2096 = bits 0x40a0_6000_0000_0000

-- 2 ^ 27 + 1
abbrev splitter : Float
splitter = bits 0x41a0_0000_0200_0000

-- the root of 2
abbrev #√2 : Float
#√2 = bits 0x3ff6_a09e_667f_3bcd

-- the decimal logarithm of 2, in two parts
abbrev log2 : Float
log2 = bits 0x3fd3_4413_509f_7000

abbrev log2_rest : Float
log2_rest = bits 0x3d43_fde6_23e2_566b

-- the decimal logarithm of e, in two parts
abbrev loge : Float
loge = bits 0x3fdb_cb7b_1000_0000

abbrev loge_rest : Float
loge_rest = bits 0x3e34_9b94_38ca_9aae

-- the guess for f * 2 ^ n
unfoldable pub guess_of : Float → Float → Float
guess_of f n =
    let d = f ⊖ #1 in
    let half = #0·5 ⊗ d ⊗ d in
    let s = d ⊘ (#2 ⊕ d) in
    let z = s ⊗ s in
    let w = z ⊗ z in
    let odd = #2 ⊘ #3 ⊕ w ⊗ (#2 ⊘ #7 ⊕ w ⊗ (#2 ⊘ #11 ⊕ w ⊗ (#2 ⊘ #15 ⊕ w ⊗ (#2 ⊘ #19)))) in
    let even = #2 ⊘ #5 ⊕ w ⊗ (#2 ⊘ #9 ⊕ w ⊗ (#2 ⊘ #13 ⊕ w ⊗ (#2 ⊘ #17 ⊕ w ⊗ (#2 ⊘ #21)))) in
    let r = z ⊗ (odd ⊕ z ⊗ even) in
    let sum = d ⊖ half in
    let big = splitter ⊗ sum in
    let top = big ⊖ (big ⊖ sum) in
    let rest = d ⊖ top ⊖ half ⊕ s ⊗ (half ⊕ r) in
    let a = n ⊗ log2 in
    let b = top ⊗ loge in
    let near = a ⊕ b in
    near ⊕ (a ⊖ near ⊕ b ⊕ (n ⊗ log2_rest ⊕ (top ⊕ rest) ⊗ loge_rest ⊕ rest ⊗ loge))

-- the guess for m * 2 ^ (e - 2148): f is from 1 to 2, and is halved above the root of 2
unfoldable pub guess : ℕ → ℕ → Float
guess m e =
    let f = dbl m ⊘ bits 0x4330_0000_0000_0000 in
    let n = dbl e ⊖ #2096 in
    guess_of (cond (lt #√2 f) (#0·5 ⊗ f) f) (cond (lt #√2 f) (n ⊕ #1) n)

-- the guess, where it lies from -(n + 3) / 2 ^ 22 to -(n - 1) / 2 ^ 22
unfoldable pub tested_below : Float → ℕ → Float
tested_below guess n = guarded guess (neg (parts (n + 3))) (neg (parts (n - 1)))

-- the guess, where it lies from n / 2 ^ 22 to (n + 3) / 2 ^ 22
unfoldable pub tested_above : Float → ℕ → Float
tested_above guess n = guarded guess (parts n) (parts (n + 3))

-- the decimal logarithm of a number above zero that is finite
unfoldable pub log_above_zero : Float → Float
log_above_zero x =
    let s = unpacked x in
    let t = s.e * 2 ^ 22 + binary_log s.m in
    let one = 2148 * 2 ^ 22 in
    cond (ltb t one) (tested_below (guess s.m s.e) (ten_log (one - t))) (tested_above (guess s.m s.e) (ten_log (t - one)))

-- the decimal logarithm of any double
unfoldable pub log10 : Float → Float
log10 x = cond (lt #0 x) (cond (lt x (inf false)) (log_above_zero x) x) (cond (eq x #0) (inf true) nan)

-- The part of a before cs is rounded once, and the table is one of quotients of whole numbers. Assumes nothing.
use Prim.Native.Nat.{ℕ, zero, suc, ◌+◌, ◌*◌, ◌^◌, ◌≤◌, ◌<◌}
use mathlib.Core.Path.{◌≡◌, refl, ap, ◌∙◌}
use mathlib.Core.Bool.{false}
use mathlib.Core.List.{List, [], ◌∷◌, ◌++◌}
use native.Mathlib.Nat.{mul-pos, mul-le-mul}
use native.Mathlib.Omega.{arith}
use lib.Ieee.{Float, binary64, round}
use Rattle.arith.specs.Double.{◌⊕◌, ◌⊗◌, dbl, bits_of}
use Rattle.arith.proofs.Laws.{one, two, three, five, dbl_sum, dbl_product, dbl_quotient}
use Rattle.factors.specs.Factors.{bits_from, bits_of_order, factor_table}
use Rattle.factors.specs.Lookup.{OnceRounded}

-- numerator and denominator
abbrev pub top : ℕ → ℕ → ℕ
top m k = (2 * m + k + 2) * (2 * m + k + 1)

abbrev pub bottom : ℕ → ℕ → ℕ
bottom m k = (2 * (m + k) + 3) * (2 * (m + k) + 5)

-- the product of two whole numbers that are each one with another added
sums_product : (n a b : ℕ) → n < 2 ^ 14 → a < 8 → b < 8 → (dbl n ⊕ dbl a) ⊗ (dbl n ⊕ dbl b) ≡ dbl ((n + a) * (n + b))
sums_product n a b h k l =
    ap (λ (x : Float). x ⊗ (dbl n ⊕ dbl b)) (dbl_sum n a (omega arith) (omega arith))
    ∙ ap (λ (x : Float). dbl (n + a) ⊗ x) (dbl_sum n b (omega arith) (omega arith))
    ∙ dbl_product (n + a) (n + b) (omega arith) (omega arith)

pub once_rounded : OnceRounded
once_rounded m k h =
    rw (one, two, three, five, sums_product (2 * m + k) 2 1 (omega arith) (omega arith) (omega arith), sums_product (2 * (m + k)) 3 5 (omega arith) (omega arith) (omega arith))
    (dbl_quotient (top m k) (bottom m k) (few (2 * m + k + 2) (2 * m + k + 1) (omega arith) (omega arith)) (few (2 * (m + k) + 3) (2 * (m + k) + 5) (omega arith) (omega arith)) (mul-pos {m = 2 * (m + k) + 3} (omega arith) (omega arith)))
  where
    few : (a b : ℕ) → a ≤ 2 ^ 26 → b ≤ 2 ^ 26 → a * b ≤ 2 ^ 53
    few a b p q = let e = mul-le-mul p q in omega arith

-- as `bits_from`, from the exact quotients
unfoldable pub quotients_from : ℕ → ℕ → ℕ → ℕ → List ℕ
quotients_from m parity i zero = []
quotients_from m parity i (suc n) = bits_of (round binary64 false (top m (2 * i + parity)) (bottom m (2 * i + parity))) ∷ quotients_from m parity (i + 1) n

from_quotients : (m parity i n : ℕ) → m + (2 * (i + n) + parity) < 4096 → bits_from m parity i n ≡ quotients_from m parity i n
unfolding bits_from quotients_from
from_quotients m parity i zero h = refl
from_quotients m parity i (suc n) h =
    rw (once_rounded m (2 * i + parity) (omega arith), from_quotients m parity (i + 1) n (omega arith))

-- as `factor_table`
abbrev quotients_of_order : ℕ → List ℕ
quotients_of_order m = quotients_from m 0 0 200 ++ quotients_from m 1 0 200

unfoldable pub quotient_table : List ℕ
quotient_table = quotients_of_order 0 ++ (quotients_of_order 1 ++ (quotients_of_order 2 ++ quotients_of_order 3))

order_is : (m : ℕ) → m < 4 → bits_of_order m ≡ quotients_of_order m
order_is m h = rw (from_quotients m 0 0 200 (omega arith), from_quotients m 1 0 200 (omega arith))

pub table_is : factor_table ≡ quotient_table
unfolding factor_table quotient_table
table_is = rw (order_is 0 (omega arith), order_is 1 (omega arith), order_is 2 (omega arith), order_is 3 (omega arith))

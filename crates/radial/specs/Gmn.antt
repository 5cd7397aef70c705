-- The function g of the second radial kind near the disc, and its derivative (`gmn`), with the names of the source; bk are the disc's coefficients of `cbk`. k counts them from 1. Definitions only.
use Rattle.std.specs.Prelude.{ℕ, zero, suc, ◌-◌, ◌*◌, ◌%◌, Bool, true, false, cond, ◌&&◌, List, eqb, leb, Float}
use Rattle.std.specs.Float.Ieee.{lt}
use Rattle.arith.specs.Double.{◌⊕◌, ◌⊖◌, ◌⊗◌, ◌⊘◌, dbl, at, #0, #1, #2, #1e-14}
use Rattle.arith.specs.Choice.{abs}
use Rattle.arith.specs.Powers.{power}
use Rattle.expansion.specs.Terms.{terms_of}
use Rattle.expansion.specs.declared.sckb.Partial.{Partial}
use Rattle.expansion.specs.declared.values.Pair.{Pair}
use Rattle.radial_sums.specs.Rmn1.{to_half}

-- ---- the two sums

-- a sum ends, from its tenth term on, where it differs from the sum remembered, gw, by less than 1e-14 of itself
unfoldable pub ends : ℕ → Float → Float → Bool
ends k sum gw = leb 10 k && lt (abs ((sum ⊖ gw) ⊘ sum)) #1e-14

-- `left` more terms from the k-th on. A sum that has ended is not remembered
unfoldable pub sum_on : (ℕ → Float) → ℕ → ℕ → Float → Float → Partial
sum_on term zero k sum gw = record { sum = sum; sw = gw }
sum_on term (suc left) k sum gw =
    let s = sum ⊕ term k in
    elim (ends k s gw) [ true ↦ record { sum = s; sw = gw } | false ↦ sum_on term left (suc k) s s ]

-- the k-th term of the value, and that of the derivative for even and for odd n − m
abbrev pub value_term : List Float → Float → ℕ → Float
value_term bk x k = at bk (k - 1) ⊗ power x (2 * k - 2)

unfoldable pub slope_term : List Float → ℕ → Float → ℕ → Float
slope_term bk ip x k =
    cond (eqb ip 0) ((#2 ⊗ dbl k ⊖ #1) ⊗ at bk (k - 1) ⊗ power x (2 * k - 2))
    (#2 ⊗ dbl k ⊗ at bk k ⊗ power x (2 * k - 1))

-- for k from 1 to nm, and from 1 to nm − 1
abbrev pub value_sum : List Float → Float → ℕ → Partial
value_sum bk x nm = sum_on (value_term bk x) nm 1 #0 #0

abbrev pub slope_sum : List Float → ℕ → Float → ℕ → Float → Partial
slope_sum bk ip x nm gw = sum_on (slope_term bk ip x) (nm - 1) 1 #0 gw

-- ---- the value and the derivative at x. The sum remembered is carried from the value's sum into the derivative's
-- 1 + x² to the power −m/2 is 1 divided by the positive power. −m as a whole number is +0 for m = 0
unfoldable pub gmn : List Float → ℕ → ℕ → Float → Float → Pair
gmn bk m n c x =
    let ip = (n - m) % 2 in
    let nm = terms_of (n - m) c in
    let w = #1 ⊕ x ⊗ x in
    let xm = #1 ⊘ to_half w m in
    let f = value_sum bk x nm in
    let gf = xm ⊗ f.sum ⊗ power x (1 - ip) in
    let gd1 = (#0 ⊖ dbl m) ⊗ x ⊘ w ⊗ gf in
    let d = slope_sum bk ip x nm f.sw in
    record { value = gf; derivative = gd1 ⊕ xm ⊗ d.sum }

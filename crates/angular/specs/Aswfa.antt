-- The angular function of a mode and its derivative (`aswfa`), in the order and with the names of the source, each power by document 01's rule. Definitions only.
use Rattle.std.specs.Prelude.{ℕ, zero, suc, ◌+◌, ◌-◌, ◌/◌, ◌%◌, Bool, true, false, ◌&&◌, cond, List, eqb, leb, Float}
use Rattle.std.specs.Float.Ieee.{lt, eq, neg}
use Rattle.arith.specs.Double.{◌⊕◌, ◌⊖◌, ◌⊗◌, ◌⊘◌, dbl, at, #0, #1, #2, #1e-14, #1e100}
use Rattle.arith.specs.Choice.{abs}
use Rattle.arith.specs.Powers.{power}
use Rattle.expansion.specs.Products.{half_of_m}
use Rattle.expansion.specs.Terms.{cut_of}
use Rattle.expansion.specs.Sdmn.{sdmn}
use Rattle.expansion.specs.Sckb.{sckb}
use Rattle.expansion.specs.declared.values.Pair.{Pair}

-- ---- how far the sums run. `offset` is n − m

abbrev pub nm_of : ℕ → Float → ℕ
nm_of offset c = 40 + cut_of offset c

unfoldable pub nm2_of : ℕ → Float → ℕ
nm2_of offset c = nm_of offset c / 2 - 2

-- ---- x1 to the power m/2. The source's case of m = 0 at x1 = 0 changes nothing: the power rule gives 1 there too

unfoldable pub a0_of : ℕ → Float → Float
a0_of m x1 = cond (eqb m 0 && eq x1 #0) #1 (half_of_m x1 m)

-- ---- the two sums

-- a sum ends with its term r for k where k is at least 10 and r is below 1e-14 of the sum su in size
unfoldable pub negligible : ℕ → Float → Float → Bool
negligible k r su = leb 10 k && lt (abs (r ⊘ su)) #1e-14

-- `left` more terms from the one for k on, or fewer where one is negligible
unfoldable pub summed : (ℕ → Float) → ℕ → ℕ → Float → Float
summed term zero k su = su
summed term (suc left) k su =
    let r = term k in
    let su' = su ⊕ r in
    elim (negligible k r su') [ true ↦ su' | false ↦ summed term left (suc k) su' ]

-- the term of the value for k, and that of the derivative
abbrev pub value_term : List Float → Float → ℕ → Float
value_term ck x1 k = at ck k ⊗ power x1 k

abbrev pub derivative_term : List Float → Float → ℕ → Float
derivative_term ck x1 k = dbl k ⊗ at ck k ⊗ power x1 (k - 1)

-- for k from 1 to nm2, and from 2 to nm2
unfoldable pub su1_of : List Float → Float → ℕ → Float
su1_of ck x1 nm2 = summed (value_term ck x1) nm2 1 (at ck 0)

unfoldable pub su2_of : List Float → Float → ℕ → Float
su2_of ck x1 nm2 = summed (derivative_term ck x1) (nm2 - 1) 2 (at ck 1)

-- ---- the pair before its signs. Here x is not below zero

-- the derivative at x = 1
unfoldable pub derivative_at_one : List Float → ℕ → ℕ → Float
derivative_at_one ck m ip =
    cond (eqb m 0) (dbl ip ⊗ at ck 0 ⊖ #2 ⊗ at ck 1)
    (cond (eqb m 1) (neg #1e100)
    (cond (eqb m 2) (neg #2 ⊗ at ck 0) #0))

-- and elsewhere
unfoldable pub derivative_inside : List Float → ℕ → ℕ → ℕ → Float → Float → Float → Float → Float
derivative_inside ck m ip nm2 x x1 a0 su1 =
    let d0 = dbl ip ⊖ dbl m ⊘ x1 ⊗ power x (ip + 1) in
    let d1 = neg #2 ⊗ a0 ⊗ power x (ip + 1) in
    let su2 = su2_of ck x1 nm2 in
    d0 ⊗ a0 ⊗ su1 ⊕ d1 ⊗ su2

unfoldable pub before_signs : List Float → ℕ → ℕ → ℕ → Float → Pair
before_signs ck m ip nm2 x =
    let x1 = #1 ⊖ x ⊗ x in
    let a0 = a0_of m x1 in
    let su1 = su1_of ck x1 nm2 in
    let s1f = a0 ⊗ power x ip ⊗ su1 in
    let s1d = cond (eq x #1) (derivative_at_one ck m ip) (derivative_inside ck m ip nm2 x x1 a0 su1) in
    record { value = s1f; derivative = s1d }

-- ---- the pair at x0; kd is the sign of the kind

-- s, negated where x0 is below zero and the parity of n − m flips it
unfoldable pub sign_at : Float → Bool → Float → Float
sign_at x0 flips s = cond (lt x0 #0 && flips) (neg s) s

unfoldable pub aswfa : ℕ → ℕ → Float → Float → Float → Float → Pair
aswfa m n c cv kd x0 =
    let x = abs x0 in
    let ip = (n - m) % 2 in
    let nm2 = nm2_of (n - m) c in
    let df = sdmn m n c cv kd in
    let ck = sckb df m n c in
    let p = before_signs ck m ip nm2 x in
    record { value = sign_at x0 (eqb ip 1) p.value; derivative = sign_at x0 (eqb ip 0) p.derivative }

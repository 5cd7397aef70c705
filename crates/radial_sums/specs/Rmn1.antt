-- The oblate radial function of the first kind (`rmn1`), on the disc and off it, with the names of the source. Definitions only.
use Rattle.std.specs.Prelude.{ℕ, zero, suc, ◌+◌, ◌-◌, ◌*◌, ◌/◌, ◌%◌, true, false, cond, List, eqb, Option, Some, None, Float}
use Rattle.std.specs.Float.Ieee.{neg, eq}
use Rattle.arith.specs.Double.{◌⊕◌, ◌⊖◌, ◌⊗◌, ◌⊘◌, dbl, at, #0, #1, #2}
use Rattle.arith.specs.Powers.{power}
use Rattle.expansion.specs.Products.{half_of_m}
use Rattle.expansion.specs.Sums.{settled}
use Rattle.expansion.specs.Sckb.{regulator, sckb}
use Rattle.joining.specs.declared.sums.Test.TheVariants.{Product}
use Rattle.joining.specs.Sums.{expansion_sum, sa0_above, sa0_below}
use Rattle.bessel.specs.Sphj.{orders, sj, dj}
use Rattle.expansion.specs.declared.values.Pair.{Pair}
use Rattle.radial_sums.specs.Limits.{first_terms}
use Rattle.radial_sums.specs.BesselSums.{bessel_sum}
use Rattle.radial_sums.specs.Common.{common}

-- ---- the sum of the first power coefficients, `left` more of them from index j on, until it has settled

unfoldable pub powers_on : List Float → ℕ → ℕ → Float → Float → Float
powers_on ck zero j sum sw = sum
powers_on ck (suc left) j sum sw = let s = sum ⊕ at ck j in elim (settled s sw) [ true ↦ s | false ↦ powers_on ck left (suc j) s s ]

abbrev pub powers_sum : List Float → ℕ → Float
powers_sum ck nm = powers_on ck nm 0 #0 #0

-- ---- sa0

-- the product of 2 c j for j from 1 to m; `kmn` multiplies in another order
unfoldable pub r2_of : Float → ℕ → Float
r2_of c zero = #1
r2_of c (suc j) = r2_of c j ⊗ (#2 ⊗ c ⊗ dbl (suc j))

abbrev pub sa0_of : ℕ → ℕ → ℕ → Float → Float
sa0_of m n ip c = sa0_above m n ip ⊘ sa0_below m n ip c (r2_of c m)

-- ---- the value where n − m is even and the derivative where it is odd, the other +0

unfoldable pub placed : ℕ → Float → Pair
placed ip v = record { value = cond (eqb ip 0) v #0; derivative = cond (eqb ip 0) #0 v }

-- ---- at x = 0; df_sum is the source's suc

unfoldable pub on_disc : List Float → List Float → ℕ → ℕ → Float → Pair
on_disc df ck m n c =
    let ip = (n - m) % 2 in
    let nm = first_terms (n - m) c in
    let reg = regulator m nm in
    let df_sum = expansion_sum Product df m ip ((n - m) / 2) nm reg in
    let sum = powers_sum ck nm in
    placed ip (sum ⊘ (sa0_of m n ip c ⊗ df_sum) ⊗ at df 0 ⊗ reg)

-- ---- at an x other than zero

-- w to the power m/2
unfoldable pub to_half : Float → ℕ → Float
to_half w m = half_of_m w m

-- From the sum over the expansion coefficients, df_sum, and the sums with Bessel functions of either kind and with their derivatives. kd is −1, and kd m as a whole number is +0 for m = 0.
-- Where x³ underflows, b0 is 0/0 for m = 0; where x x underflows, w is infinite.
unfoldable pub joined : ℕ → Float → Float → Float → Float → Float → Pair
joined m c x df_sum sum sud =
    let w = #1 ⊖ neg #1 ⊘ (x ⊗ x) in
    let a0 = to_half w m ⊘ df_sum in
    let r1f = sum ⊗ a0 in
    let b0 = (#0 ⊖ dbl m) ⊘ power x 3 ⊘ w ⊗ r1f in
    record { value = r1f; derivative = b0 ⊕ a0 ⊗ c ⊗ sud }

-- there is no answer where the order from which the recurrence of `sphj` starts was not found
unfoldable pub off_disc : List Float → ℕ → ℕ → Float → Float → Option Pair
off_disc df m n c x =
    let s = common df m n c in
    let ip = (n - m) % 2 in
    let half = (n - m) / 2 in
    let cx = c ⊗ x in
    let nm2 = 2 * s.nm + m in
    let sum = bessel_sum df (sj cx nm2) m ip half s.nm s.r0 in
    let sud = bessel_sum df (dj cx nm2) m ip half s.nm s.r0 in
    elim (eqb (orders cx nm2).from 0) [ true ↦ None | false ↦ Some (joined m c x s.suc sum sud) ]

-- ---- at any x

unfoldable pub rmn1 : List Float → ℕ → ℕ → Float → Float → Option Pair
rmn1 df m n c x = elim (eq x #0) [ true ↦ Some (on_disc df (sckb df m n c) m n c) | false ↦ off_disc df m n c x ]

-- What `kmn`, `cbk` and the disc share. Definitions only.
use Rattle.std.specs.Prelude.{ℕ, zero, suc, ◌+◌, ◌-◌, ◌*◌, ◌/◌, Bool, true, false, cond, ◌&&◌, List, eqb, ltb, Float}
use Rattle.std.specs.Float.Ieee.{lt}
use Rattle.arith.specs.Double.{◌⊕◌, ◌⊖◌, ◌⊗◌, ◌⊘◌, dbl, at, #0, #1, #1·5, #2, #1e-14}
use Rattle.arith.specs.Choice.{abs}
use Rattle.arith.specs.Powers.{two_to}
use Rattle.expansion.specs.Products.{rising}
use Rattle.expansion.specs.Sums.{settled}
use Rattle.expansion.specs.Sdmn.{r3_of}
use Rattle.expansion.specs.declared.sckb.Partial.{Partial}
use Rattle.joining.specs.declared.sums.Test.{Test}
use Rattle.joining.specs.declared.sums.Test.TheVariants.{Quotient, Product}

-- a sum has settled where it differs from the one before, sw, by less than 1e-14 of itself: `kmn` divides, `rmn1` multiplies
unfoldable pub settled_by : Test → Float → Float → Bool
settled_by Quotient sum sw = lt (abs ((sum ⊖ sw) ⊘ sum)) #1e-14
settled_by Product sum sw = settled sum sw

-- ---- the sum over the expansion coefficients: su0 of `kmn`, suc of `rmn1`. k counts coefficients from 1

-- the factor of the k-th coefficient, from that of the one before
abbrev pub next_factor : ℕ → ℕ → ℕ → Float → Float
next_factor m ip k r = r ⊗ (dbl (m + k) ⊖ #1) ⊗ (dbl (m + k + ip) ⊖ #1·5) ⊘ (dbl k ⊖ #1) ⊘ (dbl (k + ip) ⊖ #1·5)

-- the sum may stop past `half`, the place of the mode's own coefficient
unfoldable pub stops : Test → ℕ → ℕ → Float → Float → Bool
stops test half k sum sw = ltb half k && settled_by test sum sw

-- `left` more terms from the k-th on. sw is the sum remembered; a sum that has settled is not
unfoldable pub sum_on : Test → List Float → ℕ → ℕ → ℕ → ℕ → ℕ → Float → Float → Float → Partial
sum_on test df m ip half zero k r sum sw = record { sum = sum; sw = sw }
sum_on test df m ip half (suc left) k r sum sw =
    let r' = next_factor m ip k r in
    let s = sum ⊕ r' ⊗ at df (k - 1) in
    elim (stops test half k s sw) [ true ↦ record { sum = s; sw = sw } | false ↦ sum_on test df m ip half left (suc k) r' s s ]

-- over nm coefficients; the first one's factor is reg × (2m + ip)!
unfoldable pub expansion_partial : Test → List Float → ℕ → ℕ → ℕ → ℕ → Float → Partial
expansion_partial test df m ip half nm reg = let r = rising reg 1 (2 * m + ip) in sum_on test df m ip half (nm - 1) 2 r (r ⊗ at df 0) #0

-- the sum alone; only `rmn2l` takes on the one remembered
abbrev pub expansion_sum : Test → List Float → ℕ → ℕ → ℕ → ℕ → Float → Float
expansion_sum test df m ip half nm reg = (expansion_partial test df m ip half nm reg).sum

-- ---- sa0 of `kmn` and of `rmn1`, a quotient

-- c to the power ip
unfoldable pub parity_power : Float → ℕ → Float
parity_power c ip = cond (eqb ip 0) #1 c

-- above the stroke; the source's r1 is the r3 of `sdmn`
unfoldable pub sa0_above : ℕ → ℕ → ℕ → Float
sa0_above m n ip = (#2 ⊗ dbl (m + ip) ⊕ #1) ⊗ r3_of m n ip

-- below it; r2 is the product of 2 c j for j from 1 to m, which each of the two multiplies in its own order
unfoldable pub sa0_below : ℕ → ℕ → ℕ → Float → Float → Float
sa0_below m n ip c r2 = two_to n ⊗ parity_power c ip ⊗ r2 ⊗ rising #1 1 ((n - m - ip) / 2)

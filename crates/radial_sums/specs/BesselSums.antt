-- The sums of `rmn1` off the disc, over expansion coefficients df with Bessel functions bs (or their derivatives), with the names of the source. j counts coefficients from 0: the source's k is j + 1. Sign and factor are those of `rmn2l` too. Definitions only.
use Rattle.std.specs.Prelude.{ℕ, zero, suc, ◌+◌, ◌-◌, ◌*◌, ◌%◌, true, false, cond, List, eqb, Float}
use Rattle.std.specs.Float.Ieee.{neg}
use Rattle.arith.specs.Double.{◌⊕◌, ◌⊗◌, at, #0, #1}
use Rattle.joining.specs.declared.sums.Test.TheVariants.{Product}
use Rattle.joining.specs.Sums.{next_factor, stops}

-- the sign of a term: 1 where l = 2 k + m - n - 2 + ip is a multiple of 4, else -1; with half = (n - m)/2, whole division, l is 2 (j - half)
unfoldable pub lg : ℕ → ℕ → Float
lg half j = cond (eqb ((half + j) % 2) 0) #1 (neg #1)

-- the factor of a term, from that of the one before; the first one's is given
unfoldable pub factor : ℕ → ℕ → ℕ → Float → Float
factor m ip j r = cond (eqb j 0) r (next_factor m ip (j + 1) r)

-- `left` more terms from that for j on; sw is the sum remembered
unfoldable pub bessel_on : List Float → List Float → ℕ → ℕ → ℕ → ℕ → ℕ → Float → Float → Float → Float
bessel_on df bs m ip half zero j r sum sw = sum
bessel_on df bs m ip half (suc left) j r sum sw =
    let r' = factor m ip j r in
    let s = sum ⊕ lg half j ⊗ r' ⊗ at df j ⊗ at bs (m + 2 * j + ip) in
    elim (stops Product half (j + 1) s sw) [ true ↦ s | false ↦ bessel_on df bs m ip half left (suc j) r' s s ]

-- the terms from that for j on, of nm
abbrev pub sum_from : List Float → List Float → ℕ → ℕ → ℕ → ℕ → ℕ → Float → Float → Float → Float
sum_from df bs m ip half nm j r sum sw = bessel_on df bs m ip half (nm - j) j r sum sw

-- all nm terms; the sum remembered is 0 at first
abbrev pub bessel_sum : List Float → List Float → ℕ → ℕ → ℕ → ℕ → Float → Float
bessel_sum df bs m ip half nm r0 = bessel_on df bs m ip half nm 0 r0 #0 #0

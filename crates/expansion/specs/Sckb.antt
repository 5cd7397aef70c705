-- The coefficients of the powers of 1 − x² (`sckb`), in the order and with the names of the source. Definitions only.
use Rattle.std.specs.Prelude.{ℕ, zero, suc, ◌+◌, ◌-◌, ◌*◌, ◌%◌, true, false, cond, List, ltb, Float, set}
use Rattle.std.specs.Float.Ieee.{neg}
use Rattle.arith.specs.Double.{◌⊕◌, ◌⊖◌, ◌⊗◌, ◌⊘◌, dbl, at, #0, #0·5, #1, #2, #1e-200}
use Rattle.arith.specs.Powers.{half_to}
use Rattle.expansion.specs.declared.sckb.Partial.{Partial}
use Rattle.expansion.specs.Terms.{power_terms_of}
use Rattle.expansion.specs.Products.{rising, rising_by}
use Rattle.expansion.specs.Sums.{settled, blank}

-- large orders are taken down by 1e-200
unfoldable pub regulator : ℕ → ℕ → Float
regulator m nm = cond (ltb 80 (m + nm)) #1e-200 #1

-- the factor of term i of coefficient k, from that of the term before
abbrev pub next_factor : ℕ → ℕ → ℕ → Float → ℕ → Float
next_factor m ip k r i =
    let d1 = #2 ⊗ dbl i ⊕ dbl ip in
    let d2 = #2 ⊗ dbl m ⊕ d1 in
    let d3 = dbl (i + m + ip) ⊖ #0·5 in
    r ⊗ d2 ⊗ (d2 ⊖ #1) ⊗ dbl i ⊗ (d3 ⊕ dbl k) ⊘ (d1 ⊗ (d1 ⊖ #1) ⊗ dbl (i - k) ⊗ d3)

-- `left` more terms from term i on, until the sum has settled. sw is the sum remembered; a sum that has settled is not
unfoldable pub terms : List Float → ℕ → ℕ → ℕ → ℕ → ℕ → Float → Float → Float → Partial
terms df m ip k zero i r sum sw = record { sum = sum; sw = sw }
terms df m ip k (suc left) i r sum sw =
    let r' = next_factor m ip k r i in
    let sum' = sum ⊕ r' ⊗ at df i in
    elim (settled sum' sw) [ true ↦ record { sum = sum'; sw = sw } | false ↦ terms df m ip k left (suc i) r' sum' sum' ]

-- the factor of the first term of coefficient k
unfoldable pub first_factor : ℕ → ℕ → Float → ℕ → Float
first_factor m ip reg k = rising_by (rising reg (2 * k + ip + 1) (2 * m)) (k + m + ip) #0·5 k

-- the sum of coefficient k, from the sum remembered
unfoldable pub sum_of : List Float → ℕ → ℕ → ℕ → Float → ℕ → Float → Partial
sum_of df m ip nm reg k sw =
    let r = first_factor m ip reg k in
    terms df m ip k (nm - k) (suc k) r (r ⊗ at df k) sw

-- reg × n!, from reg on
unfoldable pub factorial : Float → ℕ → Float
factorial reg n = rising reg 2 (n - 1)

-- coefficient k from its sum: times fac, over reg × (m + k)!
abbrev pub value_of : Float → ℕ → ℕ → Float → Float → Float
value_of reg m k fac sum = fac ⊗ sum ⊘ factorial reg (m + k)

-- ---- the coefficients, formed in order

-- the sum remembered, fac, and the coefficients so far
pub record Filled : Type 0 where
  pub fac : Float
  pub sw : Float
  pub ck : List Float

-- with the first k of nm coefficients in place. The sum remembered is carried from k to k, and fac changes its sign
unfoldable pub filled : List Float → ℕ → ℕ → ℕ → ℕ → Filled
filled df m ip nm zero = record { fac = neg (half_to m); sw = #0; ck = blank }
filled df m ip nm (suc k) =
    let s = filled df m ip nm k in
    let reg = regulator m nm in
    let p = sum_of df m ip nm reg k s.sw in
    record { fac = neg s.fac; sw = p.sw; ck = set s.ck k (value_of reg m k (neg s.fac) p.sum) }

-- all of them
unfoldable pub sckb : List Float → ℕ → ℕ → Float → List Float
sckb df m n c = let nm = power_terms_of (n - m) c in (filled df m ((n - m) % 2) nm nm).ck

-- The factors qs and qt (`qstar`), with the names of the source. Definitions only.
use Rattle.std.specs.Prelude.{ℕ, zero, suc, ◌+◌, ◌-◌, ◌%◌, cond, List, eqb, Float, set}
use Rattle.std.specs.Float.Ieee.{neg}
use Rattle.arith.specs.Double.{◌⊕◌, ◌⊖◌, ◌⊗◌, ◌⊘◌, dbl, at, #0, #1, #2}
use Rattle.expansion.specs.Sums.{blank}
use Rattle.joining.specs.declared.qstar.Factors.{Factors}

-- the first n terms of the sum over k of ck(k) × ck(l − k)
unfoldable pub sk_at : List Float → ℕ → ℕ → Float
sk_at ck l zero = #0
sk_at ck l (suc n) = sk_at ck l n ⊕ at ck n ⊗ at ck (l - n)

-- all of them: k from 0 to l
abbrev pub sk_of : List Float → ℕ → Float
sk_of ck l = sk_at ck l (l + 1)

-- the first n terms of the sum over l, from 1 on, of sk(l) × ap(i − l)
unfoldable pub s_at : (ℕ → Float) → List Float → ℕ → ℕ → Float
s_at sk ap i zero = #0
s_at sk ap i (suc n) = s_at sk ap i n ⊕ sk (suc n) ⊗ at ap (i - suc n)

abbrev pub r_of : List Float → Float
r_of ck = #1 ⊘ (at ck 0 ⊗ at ck 0)

-- ap up to place i
unfoldable pub ap_up_to : List Float → ℕ → List Float
ap_up_to ck zero = set blank 0 (r_of ck)
ap_up_to ck (suc i) = set (ap_up_to ck i) (suc i) (neg (r_of ck) ⊗ s_at (λ l. sk_of ck l) (ap_up_to ck i) (suc i) (suc i))

-- one factor more of the product r
abbrev pub next_product : ℕ → ℕ → Float → Float
next_product ip k r = r ⊗ (#2 ⊗ dbl k ⊕ dbl ip) ⊗ (#2 ⊗ dbl k ⊖ #1 ⊕ dbl ip) ⊘ (#2 ⊗ dbl k ⊗ (#2 ⊗ dbl k))

-- r for l: the product over k from 1 to l
unfoldable pub product_of : ℕ → ℕ → Float
product_of ip zero = #1
product_of ip (suc l) = next_product ip (suc l) (product_of ip l)

-- qs0 with the first l terms
unfoldable pub qs0_at : List Float → ℕ → ℕ → ℕ → Float
qs0_at ap m ip zero = at ap m
qs0_at ap m ip (suc l) = qs0_at ap m ip l ⊕ at ap (m - suc l) ⊗ product_of ip (suc l)

-- −1 to the power ip
unfoldable pub parity_sign : ℕ → Float
parity_sign ip = cond (eqb ip 0) #1 (neg #1)

unfoldable pub qstar : List Float → ℕ → ℕ → Float → Float → Factors
qstar ck m n c ck1 =
    let ip = (n - m) % 2 in
    let qs = parity_sign ip ⊗ ck1 ⊗ (ck1 ⊗ qs0_at (ap_up_to ck m) m ip m) ⊘ c in
    record { qs = qs; qt = neg #2 ⊘ ck1 ⊗ qs }

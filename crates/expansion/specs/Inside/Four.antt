-- What the contracts speak of where four power coefficients are summed at once. `sckb` itself is defined without it. Definitions only.
use Rattle.std.specs.Prelude.{ℕ, suc, ◌+◌, ◌-◌, ◌≡◌, true, false, List, Float}
use Rattle.arith.specs.Double.{◌⊕◌, ◌⊗◌, at}
use Rattle.expansion.specs.declared.four.Term.{Term}
use Rattle.expansion.specs.declared.four.Four.{Four}
use Rattle.expansion.specs.declared.sckb.Partial.{Partial}
use Rattle.expansion.specs.Sums.{settled}
use Rattle.expansion.specs.Sckb.{next_factor, terms, first_factor}

-- term i of coefficient k, with the sum up to it, from the term before
abbrev pub next_term : List Float → ℕ → ℕ → ℕ → ℕ → Term → Term
next_term df m ip k i t = let r = next_factor m ip k t.r i in record { r = r; sum = t.sum ⊕ r ⊗ at df i }

-- the term past the first of coefficient k
abbrev pub term_past_first : List Float → ℕ → ℕ → Float → ℕ → Term
term_past_first df m ip reg k = let r = first_factor m ip reg k in next_term df m ip k (k + 1) (record { r = r; sum = r ⊗ at df k })

-- how the sum of coefficient k ends that has gone on to the term before i
abbrev pub rest_of : List Float → ℕ → ℕ → ℕ → ℕ → ℕ → Term → Partial
rest_of df m ip nm k i t = terms df m ip k (suc nm - i) i t.r t.sum t.sum

-- the sum of coefficient k from its term past the first, the one term that is held against the sum remembered from the coefficient before
unfoldable pub sum_from : List Float → ℕ → ℕ → ℕ → ℕ → Term → Float → Partial
sum_from df m ip nm k t sw = elim (settled t.sum sw) [ true ↦ record { sum = t.sum; sw = sw } | false ↦ rest_of df m ip nm k (k + 2) t ]

-- four sums that end alike, k from term i or from term j on, k + 1 from the next, and so on
abbrev pub EndAlike : List Float → ℕ → ℕ → ℕ → ℕ → ℕ → Four Term → ℕ → Four Term → Type 0
EndAlike df m ip nm k i t j u =
    (rest_of df m ip nm k i t.a ≡ rest_of df m ip nm k j u.a)
    × (rest_of df m ip nm (k + 1) (i + 1) t.b ≡ rest_of df m ip nm (k + 1) (j + 1) u.b)
    × (rest_of df m ip nm (k + 2) (i + 2) t.c ≡ rest_of df m ip nm (k + 2) (j + 2) u.c)
    × (rest_of df m ip nm (k + 3) (i + 3) t.d ≡ rest_of df m ip nm (k + 3) (j + 3) u.d)

-- The disc's own coefficients (`cbk`), with the names of the source. Definitions only.
use Rattle.std.specs.Prelude.{ℕ, zero, suc, ◌+◌, ◌-◌, ◌%◌, true, false, cond, List, eqb, ltb, pos, nat_abs, ◌+ℤ◌, ◌-ℤ◌, Float, set}
use Rattle.std.specs.Int.Signed.{lt_z}
use Rattle.std.specs.Float.{binary64}
use Rattle.std.specs.Float.Ieee.{of_int}
use Rattle.arith.specs.Double.{◌⊕◌, ◌⊖◌, ◌⊗◌, ◌⊘◌, dbl, at, #0, #1, #2}
use Rattle.expansion.specs.Terms.{terms_of}
use Rattle.expansion.specs.Sums.{settled, blank}
use Rattle.expansion.specs.declared.sckb.Partial.{Partial}

-- ---- the tridiagonal matrix: u is c × c but for its first place; v and w at j, from 1 on

abbrev pub v_at : ℕ → ℕ → Float → ℕ → Float
v_at m ip cv j = (#2 ⊗ dbl j ⊖ #1 ⊖ dbl ip) ⊗ (#2 ⊗ of_int binary64 (pos j -ℤ pos m) ⊖ dbl ip) ⊕ dbl m ⊗ (dbl m ⊖ #1) ⊖ cv

abbrev pub w_at : ℕ → ℕ → Float
w_at ip j = (#2 ⊗ dbl j ⊖ dbl ip) ⊗ (#2 ⊗ dbl j ⊕ #1 ⊖ dbl ip)

-- ---- the right side

-- the first index of the sum for k: k − m + 1, those below zero left out
unfoldable pub first_index : ℕ → ℕ → ℕ
first_index m k = let i1 = pos k -ℤ pos m +ℤ pos 1 in cond (lt_z i1 (pos 0)) 0 (nat_abs i1)

-- r1 at i, one factor more
abbrev pub next_r1 : ℕ → ℕ → ℕ → Float → Float
next_r1 m i j r1 = r1 ⊗ dbl (i + m - j) ⊘ (#1 ⊗ dbl j)

-- r1 at i for k: the product over j from 1 to k
unfoldable pub r1_at : ℕ → ℕ → ℕ → Float
r1_at m i zero = #1
r1_at m i (suc j) = next_r1 m i (suc j) (r1_at m i j)

-- the sum with the term at i
unfoldable pub added : List Float → ℕ → ℕ → ℕ → Float → Float → Float
added ck m ip i r1 s1 =
    let here = at ck i ⊗ (#2 ⊗ dbl i ⊕ dbl m) ⊗ r1 in
    let before = at ck (i - 1) ⊗ (#2 ⊗ dbl i ⊕ dbl m ⊖ #1) ⊗ r1 in
    cond (eqb ip 0) (s1 ⊕ here) (cond (ltb 0 i) (s1 ⊕ before) s1 ⊖ here)

-- `left` more terms from i on, until the sum has settled. sw is the sum remembered; a sum that has settled is not
unfoldable pub s1_from : List Float → ℕ → ℕ → ℕ → ℕ → ℕ → Float → Float → Partial
s1_from ck m ip k zero i s1 sw = record { sum = s1; sw = sw }
s1_from ck m ip k (suc left) i s1 sw =
    let s = added ck m ip i (r1_at m i k) s1 in
    elim (settled s sw) [ true ↦ record { sum = s; sw = sw } | false ↦ s1_from ck m ip k left (suc i) s s ]

-- `left` more places from k on. The sum remembered is carried from k to k
unfoldable pub right_sides : List Float → ℕ → ℕ → ℕ → Float → ℕ → ℕ → Float → List Float → List Float
right_sides ck m ip nm qt zero k sw bk = bk
right_sides ck m ip nm qt (suc left) k sw bk =
    let p = s1_from ck m ip k (nm + 1 - first_index m k) (first_index m k) #0 sw in
    right_sides ck m ip nm qt left (suc k) p.sw (set bk k (qt ⊗ p.sum))

-- ---- the elimination

pub record Solved : Type 0 where
  pub w : List Float
  pub bk : List Float

abbrev pub solved : List Float → List Float → Solved
solved w bk = record { w = w; bk = bk }

-- n rows past the first
unfoldable pub rows : ℕ → ℕ → Float → Float → ℕ → Solved → Solved
rows m ip cv u zero s = s
rows m ip cv u (suc k) s =
    let r = rows m ip cv u k s in
    let t = v_at m ip cv (k + 2) ⊖ at r.w k ⊗ u in
    solved (set r.w (suc k) (w_at ip (k + 2) ⊘ t)) (set r.bk (suc k) ((at r.bk (suc k) ⊖ at r.bk k ⊗ u) ⊘ t))

-- the first row and n more
unfoldable pub eliminated : ℕ → ℕ → Float → Float → ℕ → List Float → Solved
eliminated m ip cv u n bk = rows m ip cv u n (solved (set blank 0 (w_at ip 1 ⊘ v_at m ip cv 1)) (set bk 0 (at bk 0 ⊘ v_at m ip cv 1)))

-- back from place k down
unfoldable pub substituted : List Float → ℕ → List Float → List Float
substituted w zero bk = bk
substituted w (suc k) bk = substituted w k (set bk k (at bk k ⊖ at w k ⊗ at bk (suc k)))

-- ---- the coefficients; n2 is nm − 2
unfoldable pub cbk : List Float → ℕ → ℕ → Float → Float → Float → List Float
cbk ck m n c cv qt =
    let ip = (n - m) % 2 in
    let nm = terms_of (n - m) c in
    let n2 = nm - 2 in
    let s = eliminated m ip cv (c ⊗ c) (n2 - 1) (right_sides ck m ip nm qt n2 0 #0 blank) in
    substituted s.w (n2 - 1) s.bk

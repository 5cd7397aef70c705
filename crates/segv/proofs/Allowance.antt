-- More allowance never changes what was found: a bisection, a family and both families that are not out of steps are the same with more. Assumes nothing.
use Prim.Native.Nat.{ℕ, zero, suc, ◌+◌, ◌-◌, ◌/◌, ◌≤◌}
use mathlib.Core.Path.{◌≡◌, refl}
use mathlib.Core.Bool.{Bool, true, false, cond}
use mathlib.Core.List.{List}
use native.Mathlib.Omega.{arith}
use lib.Ieee.{Float}
use lib.ListN.{set}
use Rattle.arith.proofs.Flags.{not_left, neither}
use Rattle.sturm.specs.Pivots.{negative_pivots}
use Rattle.segv.specs.declared.bisection.Bracket.{Bracket}
use Rattle.std.specs.Prelude.{Ok, Err}
use Rattle.segv.specs.declared.ends.Ends.{Ends}
use Rattle.segv.specs.Bisection.{Search, Outcome, bisection, with_midpoint, converged, tighten, tighten_others}
use Rattle.segv.specs.Inside.Arrays.{ends}
use Rattle.segv.specs.Families.{Family, stopped, opened_at, on_search, family_from, bisected_family, family_of, both_families, either_stopped}

-- something was found
abbrev Found : Search → Type 0
Found (Ok r) = Unit {0}
Found (Err e) = ⊥

module _ (ds es : List Float) (entries places : ℕ) where
  bisection_more : (place a b : ℕ) (r : Bracket) (s : Ends) → a ≤ b → Found (bisection ds es entries places place a r s).found
      → bisection ds es entries places place b r s ≡ bisection ds es entries places place a r s
  unfolding bisection
  bisection_more place zero b r s h f = absurd f
  bisection_more place (suc a) zero r s h f = absurd (omega arith)
  bisection_more place (suc a) (suc b) r s h f =
      let m = with_midpoint r in
      let count = negative_pivots ds es entries m.value in
      go (converged m) (record { found = Ok m; ends = s }) (bisection_more place a b (tighten count place m) (tighten_others places place count m.value s) (omega arith)) f
    where
      go : (t : Bool) {x y : Outcome} (z : Outcome) → (Found y.found → x ≡ y) → Found (cond t z y).found → cond t z x ≡ cond t z y
      go true z e g = refl
      go false z e g = e g

  family_more : (a b : ℕ) → a ≤ b → (n p : ℕ) (s : Ends) (out : List Bracket) → stopped (family_from ds es entries places a n p s out) ≡ false
      → family_from ds es entries places b n p s out ≡ family_from ds es entries places a n p s out
  unfolding family_from
  family_more a b h zero p s out k = refl
  family_more a b h (suc n) p s out k =
      let x = bisection ds es entries places (p + 1) b (opened_at s p places) s in
      let y = bisection ds es entries places (p + 1) a (opened_at s p places) s in
      go x y y.found refl (bisection_more (p + 1) a b (opened_at s p places) s h) (family_more a b h n (p + 1)) k
    where
      -- the families after this place, by its outcome
      next : ℕ → Outcome → Bracket → Family
      next allowance o r = family_from ds es entries places allowance n (p + 1) (ends o.ends.uppers (set o.ends.lowers p r.lower)) (set out p r)

      go : (x y : Outcome) (f : Search) → y.found ≡ f → (Found y.found → x ≡ y)
          → ((s : Ends) (out : List Bracket) → stopped (family_from ds es entries places a n (p + 1) s out) ≡ false → family_from ds es entries places b n (p + 1) s out ≡ family_from ds es entries places a n (p + 1) s out)
          → stopped (on_search y.found out (next a y)) ≡ false → on_search x.found out (next b x) ≡ on_search y.found out (next a y)
      go x y (Ok r) e same again k =
          let g : Found y.found = rw e tt in
          rw (same g, e) (again _ _ (rw e at k))
      go x y (Err _) e same again k = not_left (rw e at k)

-- ---- the families of a row
module _ (m n : ℕ) (cs : Float) (entries a b : ℕ) (h : a ≤ b) where
  family_of_more : (parity places : ℕ) → stopped (family_of m parity cs entries places a) ≡ false → family_of m parity cs entries places b ≡ family_of m parity cs entries places a
  unfolding family_of bisected_family
  family_of_more parity places k = family_more _ _ entries places a b h places 0 _ _ k

  pub families_more : either_stopped (both_families m n cs entries a) ≡ false → both_families m n cs entries b ≡ both_families m n cs entries a
  unfolding both_families either_stopped
  families_more k =
      let both = neither _ _ k in
      rw (family_of_more 0 ((n - m + 2) / 2) both.0, family_of_more 1 ((n - m + 2) / 2) both.1)

-- A family step by step, and what its last place has in `family_from`. Assumes nothing.
use Prim.Native.Nat.{ℕ, zero, suc, ◌+◌, ◌-◌, ◌≤◌}
use mathlib.Core.Path.{◌≡◌, refl, ◌∙◌}
use mathlib.Core.Bool.{Bool, true, false, cond, ◌||◌}
use mathlib.Core.List.{List}
use native.Mathlib.Omega.{arith}
use Rattle.std.specs.Prelude.{Ok, Err}
use lib.Dec.{ltb}
use lib.Ieee.{Float, lt}
use lib.ListN.{length, get_or, set, length-set}
use lib.Seq.{get_or-set_same}
use Rattle.arith.specs.Double.{◌⊕◌, ◌⊖◌, ◌⊘◌, #0, #2, #1e-14}
use Rattle.arith.specs.Choice.{abs}
use Rattle.sturm.specs.declared.pivots.Count.{Count}
use Rattle.sturm.specs.Pivots.{negative_pivots, count}
use Rattle.segv.specs.declared.bisection.Bracket.{Bracket}
use Rattle.segv.specs.declared.ends.Ends.{Ends}
use Rattle.segv.specs.Bisection.{Search, bisection, with_midpoint, converged, tighten, tighten_others, tighten_counted}
use Rattle.segv.specs.Families.{Family, opened_at, family_from, on_search}
use Rattle.segv.specs.Inside.Arrays.{ends}
use Rattle.segv.specs.Row.{no_bracket}
use Rattle.last_values.specs.Lane.{Last, on_found, last_from, resumed}

abbrev bracket : Float → Float → Float → ℕ → Bool → Bracket
bracket v l u n f = record { value = v; lower = l; upper = u; steps = n; substituted = f }

-- a count's number alone tells what the other places learn
pub others_alike : (places place : ℕ) (j k : Count) (x : Float) (s : Ends) → j.negative ≡ k.negative → tighten_others places place j x s ≡ tighten_others places place k x s
unfolding tighten_others tighten_counted
others_alike places place j k x s h = rw h

-- what a family has for its place at q
abbrev pub last_in : Family → ℕ → Last
last_in (Ok out) q = Ok (get_or out q no_bracket).value
last_in (Err out) q = Err (record {})

found_agrees : (f : Search) (out : List Bracket) (on : Bracket → Family) (next : Bracket → Last) (q : ℕ) → ((r : Bracket) → last_in (on r) q ≡ next r) → last_in (on_search f out on) q ≡ on_found f next
found_agrees (Ok r) out on next q h = h r
found_agrees (Err e) out on next q h = refl

module _ (d e : List Float) (entries places : ℕ) where
  -- ---- what a bisection finds does not depend on steps and flag before it, nor on the value
  module _ (place : ℕ) (next : Float → Float → Ends → Last) where
    abbrev Tail : ℕ → Bracket → Ends → Last
    Tail left r s =
        let b = bisection d e entries places place left r s in
        on_found b.found (λ t. next t.value t.lower b.ends)

    blind : (left : ℕ) (v w l u : Float) (n k : ℕ) (f g : Bool) (s : Ends) → Tail left (bracket v l u n f) s ≡ Tail left (bracket w l u k g) s
    unfolding bisection with_midpoint tighten converged
    blind zero v w l u n k f g s = refl
    blind (suc left) v w l u n k f g s =
        let x = (u ⊕ l) ⊘ #2 in
        let j = negative_pivots d e entries x in
        go (converged (with_midpoint (bracket v l u n f))) refl
        (blind left x x (cond (ltb j.negative place) x l) (cond (ltb j.negative place) u x) (n + 1) (k + 1) (f || j.substituted) (g || j.substituted) (tighten_others places place j x s))
      where
        go : (b : Bool) → converged (with_midpoint (bracket v l u n f)) ≡ b
            → (let x = (u ⊕ l) ⊘ #2 in
            let j = negative_pivots d e entries x in
            let l' = cond (ltb j.negative place) x l in
            let u' = cond (ltb j.negative place) u x in
            let s' = tighten_others places place j x s in
            Tail left (bracket x l' u' (n + 1) (f || j.substituted)) s' ≡ Tail left (bracket x l' u' (k + 1) (g || j.substituted)) s')
            → Tail (suc left) (bracket v l u n f) s ≡ Tail (suc left) (bracket w l u k g) s
        go true h later = rw h
        go false h later = rw h later

  module _ (allowance : ℕ) where
    -- ---- the steps of a place
    pub resumed_out : (p left : ℕ) (l u : Float) (s : Ends) → left ≡ 0 → resumed d e entries places allowance p left l u s ≡ Err (record {})
    unfolding resumed bisection
    resumed_out p left l u s h = rw h

    module _ (p left rest : ℕ) (l u x : Float) (s : Ends) (some : left ≡ suc rest) (hx : x ≡ (u ⊕ l) ⊘ #2) where
      pub resumed_met : lt (abs ((u ⊖ l) ⊘ x)) #1e-14 ≡ true
          → resumed d e entries places allowance p left l u s ≡ last_from d e entries places allowance (places - (p + 1)) (p + 1) (ends s.uppers (set s.lowers p l)) x
      unfolding resumed bisection converged with_midpoint
      resumed_met h = rw (some, ← hx, h)

      pub resumed_on : (k : ℕ) → k ≡ (negative_pivots d e entries x).negative → lt (abs ((u ⊖ l) ⊘ x)) #1e-14 ≡ false
          → resumed d e entries places allowance p left l u s
          ≡ resumed d e entries places allowance p rest (cond (ltb k (p + 1)) x l) (cond (ltb k (p + 1)) u x) (tighten_others places (p + 1) (count k false) x s)
      unfolding resumed bisection converged with_midpoint tighten
      resumed_on k hk h =
          let j = negative_pivots d e entries x in
          rw (some, ← hx, h, hk, others_alike places (p + 1) (count j.negative false) j x s refl)
          (blind (p + 1) (λ v w t. last_from d e entries places allowance (places - (p + 1)) (p + 1) (ends t.uppers (set t.lowers p w)) v) rest x #0 _ _ _ _ _ _ _)

    -- ---- from place to place
    pub last_end : (n p : ℕ) (s : Ends) (v : Float) → n ≡ 0 → last_from d e entries places allowance n p s v ≡ Ok v
    unfolding last_from
    last_end n p s v h = rw h

    pub last_opened : (n p : ℕ) (s : Ends) (v : Float) → n ≡ suc (places - (p + 1))
        → let r = opened_at s p places in last_from d e entries places allowance n p s v ≡ resumed d e entries places allowance p allowance r.lower r.upper s
    unfolding last_from resumed opened_at
    last_opened n p s v h = rw h

    -- ---- the same as `family_from` has it
    pub last_agrees : (n p : ℕ) (s : Ends) (out : List Bracket) (v : Float) → length out ≡ 100 → p + n ≤ 100 → (get_or out (p - 1) no_bracket).value ≡ v
        → last_in (family_from d e entries places allowance n p s out) (p + n - 1) ≡ last_from d e entries places allowance n p s v
    unfolding family_from last_from
    last_agrees zero p s out v hl hp hv = let q : p + 0 - 1 ≡ p - 1 = omega arith in rw (q, hv)
    last_agrees (suc n) p s out v hl hp hv =
        let q : p + suc n - 1 ≡ p + 1 + n - 1 = omega arith in
        let b = bisection d e entries places (p + 1) allowance (opened_at s p places) s in
        rw q
        (found_agrees b.found out _ _ (p + 1 + n - 1)
        (λ (r : Bracket). last_agrees n (p + 1) (ends b.ends.uppers (set b.ends.lowers p r.lower)) (set out p r) r.value (length-set out p r ∙ hl) (omega arith)
        (let z : p + 1 - 1 ≡ p = omega arith in rw (z, get_or-set_same out p r no_bracket (omega (arith, hl))))))

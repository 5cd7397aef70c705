-- What holds of both Gershgorin bounds, and of the rounded midpoint of any two doubles of which it holds, holds of every value of a row. Assumes nothing.
use Prim.Native.Nat.{ℕ, zero, suc, ◌+◌, ◌-◌, ◌/◌, ◌%◌, ◌≤◌, ◌<◌}
use mathlib.Core.Path.{◌≡◌, sym, subst}
use mathlib.Core.List.{List}
use native.Mathlib.Omega.{arith}
use lib.Dec.{ltb, leb, eqb}
use lib.ListN.{get_or, replicate, get_or-replicate}
use lib.Ieee.{Float, nan, lt}
use Rattle.arith.specs.Double.{◌⊕◌, ◌⊘◌, #0, #2, at}
use Rattle.arith.specs.Choice.{lesser, greater}
use Rattle.arith.proofs.Flags.{cases}
use Rattle.arith.proofs.Laws.{lesser_one, greater_one}
use Rattle.sturm.specs.declared.gershgorin_bounds.Bounds.{Bounds}
use Rattle.sturm.specs.declared.pivots.Count.{Count}
use Rattle.sturm.specs.Pivots.{negative_pivots}
use Rattle.sturm.specs.Bounds.{bounds_of}
use Rattle.sturm.specs.Entries.{diagonal, off_diagonal}
use Rattle.sturm.proofs.Stored.{stored}
use Rattle.segv.specs.declared.bisection.Bracket.{Bracket}
use Rattle.segv.specs.declared.ends.Ends.{Ends}
use Rattle.segv.specs.Bisection.{Outcome, bisection, with_midpoint, converged, tighten, tighten_others, tighten_counted}
use Rattle.segv.specs.Families.{Family, brackets, first_below, raised, opened_at, family_from, bisected_family, blank_bracket, family_of, both_families}
use Rattle.segv.specs.Row.{no_bracket, mode_at}
use Rattle.segv.proofs.Sound.{Found, by_found}

module _ (P : Float → Type 0) (mid : (u l : Float) → P u → P l → P ((u ⊕ l) ⊘ #2)) where
  -- both ends of a bracket
  abbrev Both : Bracket → Type 0
  Both r = P r.lower × P r.upper

  module _ (ds es : List Float) (entries places : ℕ) where
    -- the ends of all places
    record All (s : Ends) : Type 0 where
      lows : (q : ℕ) → q < places → P (at s.lowers q)
      highs : (q : ℕ) → q < places → P (at s.uppers q)

    counted_kept : (j : Count) (x : Float) (s : Ends) → P x → All s → All (tighten_counted places j x s)
    unfolding tighten_counted
    counted_kept j x s hx g =
        let k = j.negative in
        cases All (leb places k) _ _
        (λ _. record { lows = g.lows; highs = λ q hq. stored P nan s.uppers (places - 1) q x (g.highs q hq) (λ _. hx) })
        (λ _. record {
          lows = λ q hq. stored P nan s.lowers k q (greater (at s.lowers k) x) (g.lows q hq) (λ e. greater_one P (at s.lowers k) x (rw (← e) (g.lows q hq)) hx);
          highs = λ q hq. stored P nan s.uppers (k - 1) q (lesser (at s.uppers (k - 1)) x) (g.highs q hq) (λ e. lesser_one P (at s.uppers (k - 1)) x (rw (← e) (g.highs q hq)) hx);
        })

    first_kept : (us : List Float) (x : Float) → ((q : ℕ) → q < places → P (at us q)) → P x → (i n : ℕ) → i + n ≤ places → P (first_below us x i n)
    unfolding first_below
    first_kept us x g hx i zero h = hx
    first_kept us x g hx i (suc n) h = cases P (lt (at us i) x) _ _ (λ _. g i (omega arith)) (λ _. first_kept us x g hx (i + 1) n (omega arith))

    open_kept : (p : ℕ) (s : Ends) → p < places → All s → Both (opened_at s p places)
    unfolding opened_at raised
    open_kept p s h g = (
      cases P (eqb p 0) _ _ (λ _. g.lows p h) (λ _. greater_one P (at s.lowers p) (at s.lowers (p - 1)) (g.lows p h) (g.lows (p - 1) (omega arith))),
      first_kept s.uppers _ g.highs (g.highs p h) (p + 1) (places - (p + 1)) (omega arith),
    )

    -- a bracket that was found, with its value
    abbrev Whole : Bracket → Type 0
    Whole r = P r.value × Both r

    record Held (b : Outcome) : Type 0 where
      found : Found Whole b.found
      left : All b.ends

    bisection_kept : (place left : ℕ) (r : Bracket) (s : Ends) → Both r → All s → Held (bisection ds es entries places place left r s)
    unfolding bisection with_midpoint tighten tighten_others
    bisection_kept place zero r s b g = record { found = tt; left = g }
    bisection_kept place (suc left) r s b g =
        let v = mid r.upper r.lower b.1 b.0 in
        let x = (r.upper ⊕ r.lower) ⊘ #2 in
        let k = negative_pivots ds es entries x in
        cases Held (converged (with_midpoint r)) _ _
        (λ _. record { found = (v, b); left = g })
        (λ _. bisection_kept place left _ _
        (cases P (ltb k.negative place) x r.lower (λ _. v) (λ _. b.0), cases P (ltb k.negative place) r.upper x (λ _. b.1) (λ _. v))
        (cases All (leb place k.negative) (tighten_counted places k x s) s (λ _. counted_kept k x s v g) (λ _. g)))

    -- the values of a family's brackets
    abbrev Values : List Bracket → Type 0
    Values out = (q : ℕ) → q < 100 → P (get_or out q no_bracket).value

    blanks : P #0 → Values (replicate 100 blank_bracket)
    unfolding blank_bracket
    blanks z q hq = subst (λ (b : Bracket). P b.value) (sym (get_or-replicate 100 q blank_bracket no_bracket hq)) z

    from_kept : (allowance n p : ℕ) (s : Ends) (out : List Bracket) → p + n ≡ places → All s → Values out → Values (brackets (family_from ds es entries places allowance n p s out))
    unfolding family_from
    from_kept allowance zero p s out h g old = old
    from_kept allowance (suc n) p s out h g old =
        let b = bisection ds es entries places (p + 1) allowance (opened_at s p places) s in
        let k = bisection_kept (p + 1) allowance (opened_at s p places) s (open_kept p s (omega arith) g) g in
        by_found Whole (λ (f : Family). Values (brackets f)) b.found out _ k.found old
        (λ r w. from_kept allowance n (p + 1) _ _ (omega arith)
        (record { lows = λ q hq. stored P nan b.ends.lowers p q r.lower (k.left.lows q hq) (λ _. w.1.0); highs = k.left.highs })
        (λ q hq. stored (λ (b : Bracket). P b.value) no_bracket out p q r (old q hq) (λ _. w.0)))

    family_kept : (allowance : ℕ) (bounds : Bounds) → places ≤ 100 → P #0 → P bounds.lower → P bounds.upper → Values (brackets (bisected_family ds es entries places allowance bounds))
    unfolding bisected_family
    family_kept allowance bounds h z low high =
        from_kept allowance places 0 _ _ (omega arith)
        (record {
          lows = λ q hq. subst P (sym (get_or-replicate 100 q bounds.lower nan (omega arith))) low;
          highs = λ q hq. subst P (sym (get_or-replicate 100 q bounds.upper nan (omega arith))) high;
        })
        (blanks z)

  pub row_kept : (m n : ℕ) (cs : Float) (entries allowance : ℕ) → n < m + 200 → P #0
      → ((parity : ℕ) → parity < 2 → let b = bounds_of (diagonal m parity cs entries) (off_diagonal m parity cs entries) entries in P b.lower × P b.upper)
      → (j : ℕ) → j ≤ n - m → P (mode_at (both_families m n cs entries allowance) j).value
  unfolding both_families family_of mode_at
  row_kept m n cs entries allowance h z b j hj =
      cases (λ (b : Bracket). P b.value) (eqb (j % 2) 0) _ _ (λ _. family 0 (omega arith) _ (omega arith)) (λ _. family 1 (omega arith) _ (omega arith))
    where
      family : (parity : ℕ) → parity < 2 → (q : ℕ) → q < 100 → P (get_or (brackets (family_of m parity cs entries ((n - m + 2) / 2) allowance)) q no_bracket).value
      family parity p = family_kept _ _ entries ((n - m + 2) / 2) allowance _ (omega arith) z (b parity p).0 (b parity p).1

-- Every bracket that an accepted row hands out is sound.
use Prim.Native.Nat.{ℕ, zero, suc, ◌+◌, ◌-◌, ◌/◌, ◌%◌, ◌≤◌, ◌<◌}
use mathlib.Core.Path.{◌≡◌, refl, sym, ap, ◌∙◌}
use mathlib.Core.Logic.{inl, inr}
use mathlib.Core.Bool.{Bool, true, false, ◌||◌}
use mathlib.Core.List.{List}
use native.Mathlib.Nat.{zero-add}
use native.Mathlib.Omega.{arith}
use native.Mathlib.Decide.{ℕ_discrete}
use borrow.Author.Tests.{leb-true, leb-false, ltb-true, ltb-false, eqb-true, eqb-false}
use lib.Dec.{ltb, leb, eqb}
use lib.ListN.{length, get_or, set, length-set, length-replicate, get_or-replicate}
use lib.Seq.{get_or-set_same, get_or-set_other}
use lib.Ieee as Ieee
use lib.Ieee.{Float, nan}
use Rattle.sturm.specs.declared.gershgorin_bounds.Bounds.{Bounds}
use Rattle.arith.proofs.Flags.{not_left, neither, cases}
use Rattle.arith.proofs.Laws.{lesser_one, greater_one}
use Rattle.sturm.specs.declared.pivots.Count.{Count}
use Rattle.sturm.specs.Pivots.{negative_pivots}
use Rattle.sturm.proofs.Stored.{stored}
use Rattle.arith.specs.Double.{at}
use Rattle.arith.specs.Choice.{lesser, greater}
use Rattle.segv.specs.declared.bisection.Bracket.{Bracket}
use Rattle.std.specs.Prelude.{Ok, Err}
use Rattle.segv.specs.declared.ends.Ends.{Ends}
use Rattle.segv.specs.Bisection.{Search, Outcome, bisection, with_midpoint, converged, tighten, tighten_others, tighten_counted}
use Rattle.segv.specs.Families.{Family, stopped, brackets, first_below, raised, opened_at, family_from, on_search, bisected_family, blank_bracket, family_of, both_families, either_stopped}
use Rattle.segv.specs.Row.{no_bracket, mode_at}
use Rattle.segv.specs.Sound.{Below, Above, counted_at, any_substituted, OwnCounts, Sound, SoundIn}

-- ---- what a search found
abbrev pub Found : (Bracket → Type 0) → Search → Type 0
Found P (Ok r) = P r
Found P (Err e) = Unit {0}

pub by_found : (P : Bracket → Type 0) (Q : Family → Type 0) (f : Search) (out : List Bracket) (next : Bracket → Family) → Found P f → Q (Err out) → ((r : Bracket) → P r → Q (next r)) → Q (on_search f out next)
by_found P Q (Ok r) out next h a b = b r h
by_found P Q (Err e) out next h a b = a

module _ (ds es : List Float) (entries : ℕ) (bounds : Bounds) (allowance : ℕ) where
  abbrev Lo : ℕ → Float → Type 0
  Lo = Below ds es entries bounds

  abbrev Hi : ℕ → Float → Type 0
  Hi = Above ds es entries bounds

  lo_more : (n k : ℕ) (x : Float) → n ≤ k → Lo n x → Lo k x
  lo_more n k x h (inl e) = inl e
  lo_more n k x h (inr l) = inr (omega arith)

  hi_less : (n k : ℕ) (x : Float) → k ≤ n → Hi n x → Hi k x
  hi_less n k x h (inl e) = inl e
  hi_less n k x h (inr l) = inr (omega arith)

  -- every place's ends count as they should
  record Good (places : ℕ) (s : Ends) : Type 0 where
    lows : (q : ℕ) → q < places → Lo (q + 1) (at s.lowers q)
    highs : (q : ℕ) → q < places → Hi (q + 1) (at s.uppers q)

  -- ---- the other places

  tighten_counted_good : (places : ℕ) (j : Count) (x : Float) (s : Ends) → 0 < places → 0 < j.negative → negative_pivots ds es entries x ≡ j → Good places s → Good places (tighten_counted places j x s)
  unfolding tighten_counted
  tighten_counted_good places j x s hp hj hc g =
      let k = j.negative in
      let hk : (negative_pivots ds es entries x).negative ≡ k = ap (λ (c : Count). c.negative) hc in
      cases (Good places) (leb places k) _ _
      (λ e.
      let le : places ≤ k = leb-true places k e in
      record {
        lows = g.lows;
        highs = λ q hq. stored (Hi (q + 1)) nan s.uppers (places - 1) q x (g.highs q hq) (λ eq. inr (omega arith));
      })
      (λ e.
      let lt : k < places = leb-false places k e in
      record {
        lows = λ q hq.
            stored (Lo (q + 1)) nan s.lowers k q (greater (at s.lowers k) x) (g.lows q hq)
            (λ eq. greater_one (Lo (q + 1)) (at s.lowers k) x (rw (← eq) (g.lows q hq)) (inr (omega arith)));
        highs = λ q hq.
            stored (Hi (q + 1)) nan s.uppers (k - 1) q (lesser (at s.uppers (k - 1)) x) (g.highs q hq)
            (λ eq. lesser_one (Hi (q + 1)) (at s.uppers (k - 1)) x (rw (← eq) (g.highs q hq)) (inr (omega arith)));
      })

  tighten_good : (places number : ℕ) (j : Count) (x : Float) (s : Ends) → 0 < places → 0 < number → negative_pivots ds es entries x ≡ j → Good places s → Good places (tighten_others places number j x s)
  unfolding tighten_others
  tighten_good places number j x s hp hn hc g =
      cases (Good places) (leb number j.negative) _ _ (λ e. tighten_counted_good places j x s hp (let le : number ≤ j.negative = leb-true number j.negative e in omega arith) hc g) (λ e. g)

  -- ---- a place's own bracket

  record Open (number : ℕ) (r : Bracket) : Type 0 where
    low : Lo number r.lower
    high : Hi number r.upper

  first_good : (places number : ℕ) (us : List Float) (x : Float) → ((q : ℕ) → q < places → Hi (q + 1) (at us q)) → Hi number x
      → (i n : ℕ) → number ≤ i + 1 → i + n ≤ places → Hi number (first_below us x i n)
  unfolding first_below
  first_good places number us x g hx i zero hi hn = hx
  first_good places number us x g hx i (suc n) hi hn =
      cases (Hi number) (Ieee.lt (at us i) x) _ _
      (λ _. hi_less (i + 1) number _ hi (g i (omega arith)))
      (λ _. first_good places number us x g hx (i + 1) n (omega arith) (omega arith))

  open_good : (places p : ℕ) (s : Ends) → p < places → Good places s → Open (p + 1) (opened_at s p places)
  unfolding opened_at raised
  open_good places p s hp g =
      record {
        low = cases (Lo (p + 1)) (eqb p 0) _ _ (λ _. g.lows p hp)
            (λ e. greater_one (Lo (p + 1)) (at s.lowers p) (at s.lowers (p - 1)) (g.lows p hp)
            (let ne : p ≡ 0 → ⊥ = eqb-false p 0 e in lo_more (p - 1 + 1) (p + 1) _ (omega arith) (g.lows (p - 1) (omega arith))));
        high = first_good places (p + 1) s.uppers _ g.highs (g.highs p hp) (p + 1) (places - (p + 1)) (omega arith) (omega arith);
      }

  tighten_open : (number : ℕ) (h : Bracket) → Open number h → Open number (tighten (negative_pivots ds es entries h.value) number h)
  unfolding tighten
  tighten_open number h o =
      record {
        low = cases (Lo number) _ _ _ (λ e. inr (ltb-true _ _ e)) (λ _. o.low);
        high = cases (Hi number) (ltb (negative_pivots ds es entries h.value).negative number) _ _ (λ _. o.high) (λ e. inr (ltb-false _ _ e));
      }

  -- ---- the place's own counts

  abbrev Shifts : ℕ → ℕ → Bracket → List Float
  Shifts = counted_at ds es entries

  abbrev Any : List Float → Bool
  Any = any_substituted ds es entries

  -- with what is left to count they are all that are made from the first bracket on
  record Counting (number : ℕ) (first : Bracket) (left : ℕ) (r : Bracket) : Type 0 where
    steps : r.steps + length (Shifts number left r) ≡ length (Shifts number allowance first)
    flag : (r.substituted || Any (Shifts number left r)) ≡ Any (Shifts number allowance first)

  or_none : (b : Bool) → (b || false) ≡ b
  or_none true = refl
  or_none false = refl

  or_assoc : (a b c : Bool) → (a || b || c) ≡ (a || (b || c))
  or_assoc true b c = refl
  or_assoc false b c = refl

  module _ (number : ℕ) (first : Bracket) (left : ℕ) (r : Bracket) (c : Counting number first (suc left) r) where
    all_counted : converged (with_midpoint r) ≡ true → OwnCounts ds es entries allowance number (with_midpoint r)
    unfolding counted_at any_substituted with_midpoint
    all_counted e =
        let k : r.steps + 0 ≡ length (Shifts number allowance first) = rw e at c.steps in
        record { opened = first; one_a_step = omega arith; flag = sym (or_none r.substituted) ∙ rw e at c.flag }

    counting_on : converged (with_midpoint r) ≡ false → Counting number first left (tighten (negative_pivots ds es entries (with_midpoint r).value) number (with_midpoint r))
    unfolding counted_at any_substituted with_midpoint tighten
    counting_on e =
        let k : r.steps + suc (length (Shifts number left _)) ≡ length (Shifts number allowance first) = rw e at c.steps in
        record { steps = omega arith; flag = or_assoc r.substituted _ _ ∙ rw e at c.flag }

  -- ---- the bisection

  record Held (places number : ℕ) (b : Outcome) : Type 0 where
    found : Found (Sound ds es entries bounds allowance number) b.found
    left : Good places b.ends

  bisection_sound : (places number : ℕ) (first : Bracket) → 0 < places → 0 < number → (left : ℕ) (r : Bracket) (s : Ends) → r.steps + left ≡ allowance → Counting number first left r → Open number r → Good places s
      → Held places number (bisection ds es entries places number left r s)
  unfolding bisection with_midpoint converged tighten
  bisection_sound places number first hp hn zero r s k c o g = record { found = tt; left = g }
  bisection_sound places number first hp hn (suc left) r s k c o g =
      cases (Held places number) (converged (with_midpoint r)) _ _
      (λ e. record { found = record { midpoint = refl; gap = e; below = o.low; above = o.high; stepped = omega arith; allowed = omega arith; own = all_counted number first left r c e }; left = g })
      (λ e. bisection_sound places number first hp hn left _ _ (omega arith) (counting_on number first left r c e)
      (tighten_open number (with_midpoint r) (record { low = o.low; high = o.high }))
      (tighten_good places number _ _ s hp hn refl g))

  -- ---- the family

  abbrev Sounds : ℕ → List Bracket → Type 0
  Sounds n out = (q : ℕ) → q < n → Sound ds es entries bounds allowance (q + 1) (get_or out q no_bracket)

  abbrev Fine : ℕ → Family → Type 0
  Fine places f = stopped f ≡ false → Sounds places (brackets f)

  one_more : (p : ℕ) (out : List Bracket) (r : Bracket) → p < length out → Sound ds es entries bounds allowance (p + 1) r → Sounds p out → Sounds (p + 1) (set out p r)
  one_more p out r h new old q hq = pick (ℕ_discrete q p)
    where
      pick : Dec (q ≡ p) → Sound ds es entries bounds allowance (q + 1) (get_or (set out p r) q no_bracket)
      pick (yes e) = rw (e, get_or-set_same out p r no_bracket h) new
      pick (no ne) = rw (get_or-set_other out p q r no_bracket ne) (old q (omega arith))

  from_sound : (places : ℕ) → 0 < places → places ≤ 100 → (n p : ℕ) (s : Ends) (out : List Bracket) → p + n ≡ places → length out ≡ 100
      → Good places s → Sounds p out → Fine places (family_from ds es entries places allowance n p s out)
  unfolding family_from opened_at
  from_sound places hp hl zero p s out hn ho g old = λ _ q hq. old q (omega arith)
  from_sound places hp hl (suc n) p s out hn ho g old =
      let b = bisection ds es entries places (p + 1) allowance (opened_at s p places) s in
      let k : Held places (p + 1) b = bisection_sound places (p + 1) (opened_at s p places) hp (omega arith) allowance (opened_at s p places) s (zero-add allowance) (record { steps = zero-add _; flag = refl }) (open_good places p s (omega arith) g) g in
      by_found (Sound ds es entries bounds allowance (p + 1)) (Fine places) b.found out _ k.found
      (λ e. not_left e)
      (λ r h. from_sound places hp hl n (p + 1) _ _ (omega arith) (length-set out p r ∙ ho)
      (record {
        lows = λ q hq. stored (Lo (q + 1)) nan b.ends.lowers p q r.lower (k.left.lows q hq) (λ eq. rw eq h.below);
        highs = k.left.highs;
      })
      (one_more p out r (omega arith) h old))

  all_sound : (places : ℕ) → 0 < places → places ≤ 100 → Fine places (bisected_family ds es entries places allowance bounds)
  unfolding bisected_family
  all_sound places hp hl =
      from_sound places hp hl places 0 _ _ (omega arith) (length-replicate 100 blank_bracket)
      (record {
        lows = λ q hq. inl (get_or-replicate 100 q bounds.lower nan (omega arith));
        highs = λ q hq. inl (get_or-replicate 100 q bounds.upper nan (omega arith));
      })
      (λ q hq. absurd (omega arith))

pub family_sound : (m parity : ℕ) (cs : Float) (entries places allowance : ℕ) → 0 < places → places ≤ 100
    → stopped (family_of m parity cs entries places allowance) ≡ false
    → (q : ℕ) → q < places → SoundIn m parity cs entries allowance (q + 1) (get_or (brackets (family_of m parity cs entries places allowance)) q no_bracket)
unfolding family_of
family_sound m parity cs entries places allowance hp hl h q hq = all_sound _ _ entries _ allowance places hp hl h q hq

-- ---- the row

-- Demand 3: each bracket of an accepted row is sound for its place among the families of its parity.
pub row_sound : (m n : ℕ) (cs : Float) (entries allowance : ℕ) → n < m + 200 → either_stopped (both_families m n cs entries allowance) ≡ false
    → (j : ℕ) → j ≤ n - m → SoundIn m (j % 2) cs entries allowance (j / 2 + 1) (mode_at (both_families m n cs entries allowance) j)
unfolding both_families either_stopped mode_at
row_sound m n cs entries allowance hn h j hj =
    let both = neither _ _ h in
    cases (SoundIn m (j % 2) cs entries allowance (j / 2 + 1)) (eqb (j % 2) 0) _ _
    (λ e. rw (eqb-true (j % 2) 0 e) (family_sound m 0 cs entries _ allowance (omega arith) (omega arith) both.0 (j / 2) (omega arith)))
    (λ e.
    let ne : j % 2 ≡ 0 → ⊥ = eqb-false (j % 2) 0 e in
    let o : j % 2 ≡ 1 = omega arith in
    rw o (family_sound m 1 cs entries _ allowance (omega arith) (omega arith) both.1 (j / 2) (omega arith)))

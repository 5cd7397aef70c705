-- The chain of pivots at one shift, entry by entry, and the seven that the loop of `negative_pivots` carries. Assumes nothing.
use Prim.Native.Nat.{ℕ, ◌+◌, ◌<◌, ◌≤◌}
use mathlib.Core.Path.{◌≡◌, refl, sym, ◌∙◌}
use mathlib.Core.Bool.{Bool, true, false, cond}
use mathlib.Core.List.{List}
use native.Mathlib.Omega.{arith}
use native.Mathlib.Numerals.{add-one}
use lib.Ieee.{Float, eq, lt}
use Rattle.arith.specs.Double.{#0, #1, at}
use Rattle.sturm.specs.Pivots.{divisor, square, pivot, next_pivot, pivots_at, negative_pivots}
use Rattle.sturm.specs.Inside.SevenShifts.{all, each, pairs, Each, count_on, counts_at}
use Rattle.sturm.specs.declared.pivots.Seven.{Seven}
use Rattle.sturm.specs.declared.pivots.Count.{Count}

-- ---- one chain

-- After i entries its pivot and its number are the definition's. `met` may be true without need, where another chain met a zero.
pub record Chain (ds es : List Float) (shift : Float) (i : ℕ) (last : Float) (negative : ℕ) (met : Bool) : Type 0 where
  pub few : negative ≤ i
  pub last_is : last ≡ (pivots_at ds es shift i).last
  pub number_is : negative ≡ (pivots_at ds es shift i).count.negative
  pub none_met : met ≡ false → (pivots_at ds es shift i).count.substituted ≡ false

module _ (ds es : List Float) (shift : Float) where
  chain_starts : (met : Bool) → Chain ds es shift 0 #1 0 met
  unfolding pivots_at
  chain_starts met = record { few = omega arith; last_is = refl; number_is = refl; none_met = λ h. refl }

  at_most : (b : Bool) (n i : ℕ) → n ≤ i → cond b (n + 1) n ≤ i + 1
  at_most true n i h = omega arith
  at_most false n i h = omega arith

  chain_on : (i : ℕ) (s : Float) (n : ℕ) (met : Bool) → Chain ds es shift i s n met
      → (met' : Bool) → (met' ≡ false → (met ≡ false) × (eq s #0 ≡ false))
      → let t = pivot (at ds i) (square (at es i)) (divisor s) shift in Chain ds es shift (i + 1) t (count_on n t) met'
  unfolding pivots_at next_pivot
  chain_on i s n met c met' none =
      record {
        few = at_most (lt _ #0) n i c.few;
        last_is = rw (add-one i, ← c.last_is);
        number_is = rw (add-one i, ← c.last_is, ← c.number_is);
        none_met = λ h. let q = none h in rw (add-one i, ← c.last_is, q.1) (c.none_met q.0);
      }

-- ---- the seven

every : {A : Type 0} (P : A → Type 0) → ((a : A) → P a) → (s : Seven A) → Each P s
every P p s = (p s.x, p s.l, p s.h, p s.ll, p s.lh, p s.hl, p s.hh)

-- what follows from two facts of each
follows : {A : Type 0} (P Q R : A → Type 0) → ((a : A) → P a → Q a → R a) → (s : Seven A) → Each P s → Each Q s → Each R s
follows P Q R f s p q = (f s.x p.0 q.0, f s.l p.1 q.1, f s.h p.2 q.2, f s.ll p.3 q.3, f s.lh p.4 q.4, f s.hl p.5 q.5, f s.hh p.6 q.6)

same : {A B : Type 0} (f g : A → B) (s : Seven A) → Each (λ a. f a ≡ g a) s → each f s ≡ each g s
same f g s e = rw (e.0, e.1, e.2, e.3, e.4, e.5, e.6)

abbrev pub NotZero : Float → Type 0
NotZero s = eq s #0 ≡ false

-- where no pivot is zero, nothing is put in
pub no_zero : (s : Seven Float) → Each NotZero s → s ≡ each divisor s
unfolding divisor
no_zero s z = same (λ p. p) divisor s (follows NotZero NotZero (λ p. p ≡ divisor p) (λ p h k. rw h) s z z)

-- a chain's shift, pivot and number
abbrev State : Type 0
State = Float × Float × ℕ

abbrev states : Seven Float → Seven Float → Seven ℕ → Seven State
states shifts s n = pairs (λ t (q : Float × ℕ). (t, q.0, q.1)) shifts (pairs (λ p k. (p, k)) s n)

module _ (ds es : List Float) where
  abbrev Run : ℕ → Bool → State → Type 0
  Run i met q = Chain ds es q.0 i q.1 q.2 met

  abbrev pub Chains : Seven Float → ℕ → Seven Float → Seven ℕ → Bool → Type 0
  Chains shifts i s n met = Each (Run i met) (states shifts s n)

  module _ (shifts : Seven Float) where
    pub chains_start : (s : Seven Float) (n : Seven ℕ) → s ≡ all #1 → n ≡ all 0 → Chains shifts 0 s n false
    chains_start s n hs hn = rw (hs, hn) (every (λ t. Run 0 false (t, #1, 0)) (λ t. chain_starts ds es t false) shifts)

    module _ (i : ℕ) (s : Seven Float) (n : Seven ℕ) (met : Bool) (c : Chains shifts i s n met) where
      -- what each chain shows
      shown : (R : State → Type 0) → ((q : State) → Run i met q → R q) → Each R (states shifts s n)
      shown R f = follows (Run i met) (Run i met) R (λ q r t. f q r) (states shifts s n) c c

      pub chains_few : i < 300 → Each (λ k. k < 300) n
      chains_few h = shown (λ q. q.2 < 300) (λ q r. let f = r.few in omega arith)

      pub chains_on : (v : Seven Float) (met' : Bool) (t : Seven Float) (k : Seven ℕ) → v ≡ each divisor s → (met' ≡ false → (met ≡ false) × Each NotZero s)
          → t ≡ pairs (pivot (at ds i) (square (at es i))) v shifts → k ≡ pairs count_on n t → Chains shifts (i + 1) t k met'
      chains_on v met' t k hv none ht hk =
          rw (hk, ht, hv)
          (follows (Run i met) (λ q. met' ≡ false → (met ≡ false) × NotZero q.1) (λ q. let p = pivot (at ds i) (square (at es i)) (divisor q.1) q.0 in Run (i + 1) met' (q.0, p, count_on q.2 p))
          (λ q r z. chain_on ds es q.0 i q.1 q.2 met r met' z) (states shifts s n) c
          (λ h. let f = none h in (f.0, f.1.0), λ h. let f = none h in (f.0, f.1.1), λ h. let f = none h in (f.0, f.1.2), λ h. let f = none h in (f.0, f.1.3), λ h. let f = none h in (f.0, f.1.4), λ h. let f = none h in (f.0, f.1.5), λ h. let f = none h in (f.0, f.1.6)))

      module _ (entries : ℕ) (h : i ≡ entries) where
        abbrev at_end : Float → Count
        at_end = negative_pivots ds es entries

        pub chains_end : (b : Seven Bool) → b ≡ each (λ t. (at_end t).substituted) shifts → record { negative = n; substituted = b } ≡ counts_at at_end shifts
        unfolding negative_pivots
        chains_end b hb = rw (numbers, hb)
          where
            numbers : n ≡ each (λ t. (at_end t).negative) shifts
            numbers = same (λ (q : State). q.2) (λ q. (at_end q.0).negative) (states shifts s n) (shown (λ q. q.2 ≡ (at_end q.0).negative) (λ q r. rw (← h) r.number_is))

        -- no chain met a zero
        pub none_at_each : met ≡ false → (b : Seven Bool) → b ≡ all false → b ≡ each (λ t. (at_end t).substituted) shifts
        unfolding negative_pivots
        none_at_each m b hb =
            hb ∙ same (λ (q : State). false) (λ q. (at_end q.0).substituted) (states shifts s n) (shown (λ q. false ≡ (at_end q.0).substituted) (λ q r. rw (← h) (sym (r.none_met m))))

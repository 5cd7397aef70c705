-- Stores one after the other, and the pivots of one lane, in the form in which the proofs of the code meet them. Assumes nothing.
use Prim.Native.Nat.{ℕ, suc, ◌+◌, ◌<◌, ◌≤◌, min}
use mathlib.Core.Path.{◌≡◌, refl, ◌∙◌}
use mathlib.Core.Bool.{Bool, true, false, cond}
use mathlib.Core.List.{List}
use native.Mathlib.Omega.{arith}
use native.Mathlib.Numerals.{add-one}
use native.Mathlib.Decide.{ℕ_discrete, dec_le}
use lib.Ieee.{Float, nan, inf, fin, sub, eq, lt, of_bits}
use lib.ListN.{length, get_or, set, length-set}
use lib.Seq.{get_or-set_same, get_or-set_other}
use Rattle.arith.specs.Double.{◌⊖◌, ◌⊘◌, #0, #1}
use Rattle.sturm.specs.Pivots.{divisor, square, pivot, next_pivot, pivots_at}
use Rattle.lanes.specs.Lanes.{lane_at, Holds}

-- what holds below i, and at i
pub one_more : (P : ℕ → Type 0) (i : ℕ) → ((k : ℕ) → k < i → P k) → P i → (k : ℕ) → k < i + 1 → P k
one_more P i below here k l = pick (ℕ_discrete k i)
  where
    pick : Dec (k ≡ i) → P k
    pick (yes h) = rw h here
    pick (no h) = below k (omega arith)

-- ---- stores

-- The values of f are stored at `place 0`, `place 1`, .., one after the other. The first i are in place, and every other index holds what it held.
pub record Stored {A : Type 0} (default : A) (place : ℕ → ℕ) (f : ℕ → A) (before after : List A) (i : ℕ) : Type 0 where
  pub size : length after ≡ length before
  pub done : (k : ℕ) → k < i → get_or after (place k) default ≡ f k
  pub kept : (q : ℕ) → ((k : ℕ) → k < i → q ≡ place k → ⊥) → get_or after q default ≡ get_or before q default

module _ {A : Type 0} (default : A) (place : ℕ → ℕ) (f : ℕ → A) (before : List A) where
  pub none_stored : Stored default place f before before 0
  none_stored = record { size = refl; done = λ k l. absurd (omega arith); kept = λ q other. refl }

  pub one_stored : (after : List A) (i : ℕ) (v : A) → Stored default place f before after i → place i < length before → ((k : ℕ) → k < i → place k ≡ place i → ⊥) → v ≡ f i
      → Stored default place f before (set after (place i) v) (i + 1)
  one_stored after i v s inside apart e =
      record {
        size = length-set after (place i) v ∙ s.size;
        done = one_more (λ k. get_or (set after (place i) v) (place k) default ≡ f k) i (λ k l. get_or-set_other after (place i) (place k) v default (apart k l) ∙ s.done k l) (get_or-set_same after (place i) v default (omega (arith, s.size)) ∙ e);
        kept = λ q other. get_or-set_other after (place i) q v default (other i (omega arith)) ∙ s.kept q (λ k l. other k (omega arith));
      }

-- where the i-th is stored at index i, that index holds what it held until its turn
pub next_kept : {A : Type 0} {default : A} {f : ℕ → A} {before after : List A} (i : ℕ) → Stored default (λ k. k) f before after i → get_or after i default ≡ get_or before i default
next_kept i s = s.kept i (λ k l e. omega arith)

-- ---- pivots

-- for a pivot that is not zero nothing is put in
pub no_zero : (s : Float) → eq s #0 ≡ false → s ≡ divisor s
unfolding divisor
no_zero s h = rw h

above : (x : Float) → lt (inf false ⊖ x) #0 ≡ false
unfolding sub lt of_bits
above nan = refl
above (inf true) = refl
above (inf false) = refl
above (fin s m e) = refl

-- at an infinite entry the pivot is not below zero, whatever the root beside it
never_below : (y x : Float) → lt ((inf false ⊖ y) ⊖ x) #0 ≡ false
unfolding sub lt
never_below nan x = refl
never_below (inf true) x = above x
never_below (inf false) x = refl
never_below (fin s m e) x = above x

-- ---- the pivots of one lane

at_most : (b : Bool) (n i : ℕ) → n ≤ i → cond b (n + 1) n ≤ i + 1
at_most true n i h = omega arith
at_most false n i h = omega arith

-- After i entries. The pivot is that of the matrix in the lane until its k entries have passed; the count stays what it is then.
pub record Lane (ds es : List Float) (j : ℕ) (shift : Float) (i : ℕ) (s : Float) (n : ℕ) : Type 0 where
  pub few : n ≤ i
  pub last_is : (k : ℕ) (d e : List Float) → Holds ds es j k d e → i ≤ k → s ≡ (pivots_at d e shift i).last
  pub number_is : (k : ℕ) (d e : List Float) → Holds ds es j k d e → n ≡ (pivots_at d e shift (min i k)).count.negative

module _ (ds es : List Float) (j : ℕ) (shift : Float) where
  pub lane_starts : Lane ds es j shift 0 #1 0
  unfolding pivots_at
  lane_starts = record { few = omega arith; last_is = λ k d e h l. refl; number_is = λ k d e h. let q : min 0 k ≡ 0 = omega arith in rw q }

  module _ (i : ℕ) (s t : Float) (n m : ℕ) (ht : t ≡ pivot (lane_at ds j i) (square (lane_at es j i)) (divisor s) shift) (hm : m ≡ cond (lt t #0) (n + 1) n) where
    pub lane_on : i < 192 → Lane ds es j shift i s n → Lane ds es j shift (i + 1) t m
    unfolding pivots_at next_pivot
    lane_on inside c =
        record {
          few = rw hm (at_most (lt t #0) n i c.few);
          last_is = λ k d e h l. rw (add-one i, ← (c.last_is k d e h (omega arith)), ← (h.diagonal i (omega arith)), ← (h.roots i (omega arith))) ht;
          number_is = λ k d e h. pick k d e h (dec_le k i);
        }
      where
        pick : (k : ℕ) (d e : List Float) → Holds ds es j k d e → Dec (k ≤ i) → m ≡ (pivots_at d e shift (min (i + 1) k)).count.negative
        pick k d e h (yes past) =
            let now : min i k ≡ k = omega arith in
            let then : min (i + 1) k ≡ k = omega arith in
            rw (hm, ht, h.past i past inside, never_below (square (lane_at es j i) ⊘ divisor s) shift, then) (rw now at (c.number_is k d e h))
        pick k d e h (no within) =
            let now : min i k ≡ i = omega arith in
            let then : min (i + 1) k ≡ suc i = omega arith in
            rw (hm, ht, then, h.diagonal i (omega arith), h.roots i (omega arith), c.last_is k d e h (omega arith), rw now at (c.number_is k d e h))

-- How the definitions of sheets unfold, in the form in which the proofs of the code meet them. Assumes nothing.
use Prim.Native.Nat.{ℕ, zero, suc, ◌+◌, ◌-◌, ◌*◌, ◌≤◌, ◌<◌}
use mathlib.Core.Path.{◌≡◌, refl, sym, ap, ◌∙◌}
use mathlib.Core.Bool.{Bool, true, false, cond, ◌||◌}
use mathlib.Core.List.{List, [], ◌∷◌, ◌++◌, append_assoc, append-nil}
use native.Mathlib.Omega.{arith}
use native.Mathlib.Nat.{add_comm, zero-mul, mul-zero, suc-mul, mul_left_comm, mul-le-mul, mul-le-mul_right, le_trans, le_of_eq}
use native.Mathlib.Numerals.{add-one}
use native.Mathlib.Decide.{ℕ_discrete}
use borrow.Author.Tests.{eqb-true, eqb-false, ne_eqb, ltb-false}
use lib.Dec.{eqb, ltb}
use lib.Ieee.{Float, nan}
use lib.ListN.{length, replicate, take, drop, set, length-append, length-drop}
use lib.Seq.{length-take-le, take_all, drop-cons, drop-length, drop-drop, take_at, drop_at, get_or-set_same, get_or-set_other, get_or-take, take-append_seam, get_or-append-add}
use Rattle.arith.specs.Double.{at, #0}
use Rattle.arith.proofs.Flags.{neither, not_taken}
use Rattle.segv.specs.Row.{Slices, slices, Numbered, answer}
use Rattle.angular.specs.Aswfa.{aswfa}
use Rattle.angular.specs.Inside.Turns.{in_turn}
use Rattle.requests.specs.declared.refusals.Refusal.{Refusal}
use Rattle.requests.specs.Answers.{Pair, code, number_of}
use Rattle.std.specs.Prelude.{Result, Ok, Err, is_ok}
use Rattle.std.specs.Result.{result_and}
use Rattle.requests.specs.declared.checking.Kind.{Kind}
use Rattle.requests.specs.Refusals.{out_of_range, mode_refusal, not_finite, sign_of}
use Rattle.requests.proofs.Laws.{none, some_number}
use Rattle.rows.specs.Rows.{row_of, blank_slices}
use Rattle.rows.proofs.Finite.{finite_row}
use Rattle.modes.specs.Angular.{outside, angular_of, angular_refusal, angular_pair}
use Rattle.sheets.specs.Sheet.{mode_with, or_else, first_refusal, argument_refusal, too_large, lists_refusal, pair_of, each, row_for, cv_for, row_refusal_for, pairs, sheet_refusal, sheet_of}

-- ---- the numbers of answers
pub ok_number : {A : Type 0} (r : Result A Refusal) → is_ok r ≡ true → code r ≡ 0
ok_number (Ok x) h = refl
ok_number (Err refusal) h = absurd (not_taken h)

pub and_number : (r s : Result Unit Refusal) → code (result_and r s) ≡ or_else (code r) (code s)
and_number (Ok u) s = refl
and_number (Err refusal) s = rw (ne_eqb (number_of refusal) 0 (some_number refusal))

-- ---- the first refusal of a list, from place i on
module _ (refusal : Float → ℕ) (ys : List Float) (i : ℕ) where
  first_here : i < length ys → (refusal (at ys i) ≡ 0 → ⊥) → refusal (at ys i) ≡ first_refusal refusal (drop i ys)
  unfolding first_refusal
  first_here l h = rw (drop-cons ys i nan l, ne_eqb (refusal (at ys i)) 0 h)

  pub first_later : i < length ys → refusal (at ys i) ≡ 0 → first_refusal refusal (drop i ys) ≡ first_refusal refusal (drop (i + 1) ys)
  unfolding first_refusal
  first_later l h = rw (drop-cons ys i nan l, h, add-one i)

  pub first_stop : (k : ℕ) → i < length ys → k ≡ refusal (at ys i) → (k ≡ 0 → ⊥) → k ≡ first_refusal refusal (drop i ys)
  first_stop k l e h = e ∙ first_here l (λ (z : refusal (at ys i) ≡ 0). h (e ∙ z))

  pub first_end : i ≡ length ys → 0 ≡ first_refusal refusal (drop i ys)
  unfolding first_refusal
  first_end e = rw (e, drop-length ys)

-- where there is none, no element is refused
pub all_pass : (refusal : Float → ℕ) (ys : List Float) → first_refusal refusal ys ≡ 0 → (i : ℕ) → i < length ys → refusal (at ys i) ≡ 0
unfolding first_refusal
all_pass refusal [] h i l = absurd (omega arith)
all_pass refusal (y ∷ ys) h zero l = none (refusal y) _ h
all_pass refusal (y ∷ ys) h (suc i) l = all_pass refusal ys (rw (none (refusal y) _ h) at h) i (omega arith)

-- ---- lists that are accepted
pub record Passed (m n : ℕ) (cs xs : List Float) (places : ℕ) : Type 0 where
  pub order : out_of_range (mode_with m n #0) ≡ false
  pub parameters : first_refusal (λ c. mode_refusal (mode_with m n c)) cs ≡ 0
  pub arguments : first_refusal argument_refusal xs ≡ 0
  pub few : length cs ≤ 32
  pub short : length xs ≤ 64
  pub room : 2 * (length cs * length xs) ≤ places

no_number : (b : Bool) (k : ℕ) → 0 < k → cond b k 0 ≡ 0 → b ≡ false
no_number true k l h = absurd (omega arith)
no_number false k l h = refl

sizes : (p a places : ℕ) → too_large p a places ≡ false → (p ≤ 32) × (a ≤ 64) × (2 * (p * a) ≤ places)
unfolding too_large
sizes p a places h =
    let q = neither (ltb 32 p || ltb 64 a) (ltb places (2 * (p * a))) h in
    let r = neither (ltb 32 p) (ltb 64 a) q.0 in
    (ltb-false 32 p r.0, ltb-false 64 a r.1, ltb-false places (2 * (p * a)) q.1)

-- the pairs of the i-th c of p have room in the block, w places for each c
pub room_for : (i p a places : ℕ) → i < p → 2 * (p * a) ≤ places → i * (2 * a) + 2 * a ≤ places
room_for i p a places l h =
    let more : suc i * (2 * a) ≤ p * (2 * a) = mul-le-mul_right (2 * a) l in
    le_trans (le_trans (le_of_eq (sym (suc-mul i (2 * a)))) more) (rw (mul_left_comm p 2 a) h)

-- a sheet has few pairs
pub few_pairs : (p a : ℕ) → p ≤ 32 → a ≤ 64 → p * a ≤ 2048
few_pairs p a h l = mul-le-mul h l

pub next_place : (i w from : ℕ) → from ≡ i * w → from + w ≡ (i + 1) * w
next_place i w from e = rw (e, add-one i, suc-mul i w)

pub few_places : (i a : ℕ) → i ≤ 32 → a ≤ 64 → i * (2 * a) ≤ 4096
few_places i a h l = mul-le-mul {n₁ = i} {m₁ = 2 * a} {n₂ = 32} {m₂ = 128} h (omega arith)

in_turn_lem : (j k later : ℕ) → or_else j (or_else k later) ≡ or_else (or_else j k) later
in_turn_lem j k later = go (eqb j 0) refl
  where
    go : (t : Bool) → eqb j 0 ≡ t → or_else j (or_else k later) ≡ or_else (or_else j k) later
    go true e = rw e
    go false e = rw (e, e)

module _ (m n : ℕ) (cs xs : List Float) (places : ℕ) where
  pub passed : lists_refusal m n cs xs places ≡ 0 → Passed m n cs xs places
  unfolding lists_refusal
  passed h =
      let a = none (cond (out_of_range (mode_with m n #0)) 4 0) _ h in
      let h₁ = rw a at h in
      let b = none (first_refusal (λ c. mode_refusal (mode_with m n c)) cs) _ h₁ in
      let h₂ = rw b at h₁ in
      let d = none (first_refusal argument_refusal xs) _ h₂ in
      let s = sizes (length cs) (length xs) places (no_number (too_large (length cs) (length xs) places) 13 (omega arith) (rw d at h₂)) in
      record { order = no_number (out_of_range (mode_with m n #0)) 4 (omega arith) a; parameters = b; arguments = d; few = s.0; short = s.1; room = s.2 }

  pub lists_order : out_of_range (mode_with m n #0) ≡ true → 4 ≡ lists_refusal m n cs xs places
  unfolding lists_refusal
  lists_order h = rw h

  module _ (o : out_of_range (mode_with m n #0) ≡ false) (k p a : ℕ) (hp : p ≡ first_refusal (λ c. mode_refusal (mode_with m n c)) cs) (ha : a ≡ first_refusal argument_refusal xs) (hk : k ≡ or_else p a) where
    pub lists_element : (k ≡ 0 → ⊥) → k ≡ lists_refusal m n cs xs places
    unfolding lists_refusal
    lists_element h = rw (o, ← hp, ← ha, in_turn_lem p a (cond (too_large (length cs) (length xs) places) 13 0), ← hk, ne_eqb k 0 h)

    pub lists_size : (b : Bool) → k ≡ 0 → b ≡ too_large (length cs) (length xs) places → cond b 13 0 ≡ lists_refusal m n cs xs places
    unfolding lists_refusal
    lists_size b z hb = rw (o, ← hp, ← ha, in_turn_lem p a (cond (too_large (length cs) (length xs) places) 13 0), ← hk, z, hb)

-- ---- what each element gives

-- the part from a place on has all places behind it
pub part_length : (xs : List Float) (from : ℕ) → length (take (length xs - from) (drop from xs)) ≡ length xs - from
part_length xs from = let e = length-drop from xs in length-take-le (length xs - from) (drop from xs) (omega arith)

module _ (f : Float → List Float) where
  pub each_same : (g : Float → List Float) (ys : List Float) → ((i : ℕ) → i < length ys → f (at ys i) ≡ g (at ys i)) → each f ys ≡ each g ys
  unfolding each
  each_same g [] h = refl
  each_same g (y ∷ ys) h = rw (h 0 (omega arith), each_same g ys (λ (i : ℕ) (l : i < length ys). h (suc i) (omega arith)))

  each_more : (ys : List Float) (i : ℕ) → i < length ys → each f (take (suc i) ys) ≡ each f (take i ys) ++ f (at ys i)
  unfolding each
  each_more [] i l = absurd (omega arith)
  each_more (y ∷ ys) zero l = append-nil (f y)
  each_more (y ∷ ys) (suc i) l = rw (each_more ys i (omega arith)) (sym (append_assoc (f y) (each f (take i ys)) (f (at ys i))))

  pub each_length : (w : ℕ) → ((y : Float) → length (f y) ≡ w) → (ys : List Float) → length (each f ys) ≡ length ys * w
  unfolding each
  each_length w h [] = sym (zero-mul w)
  each_length w h (y ∷ ys) = length-append (f y) (each f ys) ∙ rw (h y, each_length w h ys, suc-mul (length ys) w) (add_comm w (length ys * w))

  -- one element more, put into the part of a list from place `from` on, which has k places
  pub each_put : (ys before after : List Float) (i w from k : ℕ) → i < length ys → from ≡ length (each f (take i ys)) → k ≡ length after - from → after ≡ each f (take i ys) ++ drop from before
      → take from after ++ ((f (at ys i) ++ drop w (take k (drop from after))) ++ drop k (drop from after)) ≡ each f (take (i + 1) ys) ++ drop (from + w) before
  each_put ys before after i w from k l e hk h =
      let p = each f (take i ys) in
      let head : take from after ≡ p = ap (take from) h ∙ take_at p (drop from before) from (sym e) in
      let tail : drop from after ≡ drop from before = ap (drop from) h ∙ drop_at p (drop from before) from (sym e) in
      let size : length (drop from after) ≡ k = length-drop from after ∙ sym hk in
      let whole : take k (drop from after) ≡ drop from after = take_all k (drop from after) (omega arith) in
      let none_left : drop k (drop from after) ≡ [] = rw (← size) (drop-length (drop from after)) in
      rw (whole, none_left, append-nil (f (at ys i) ++ drop w (drop from after)), head, tail, drop-drop w from before, add-one i, each_more ys i l)
      (sym (append_assoc p (f (at ys i)) (drop (from + w) before)))

-- ---- where each element's part is
get_d_first : (xs ys : List Float) (q : ℕ) → q < length xs → at (xs ++ ys) q ≡ at xs q
get_d_first xs ys q l = sym (get_or-take (length xs) (xs ++ ys) q nan l) ∙ rw (take-append_seam xs ys)

pub each_at : (f : Float → List Float) (w : ℕ) → ((y : Float) → length (f y) ≡ w) → (ys rest : List Float) (i q : ℕ) → i < length ys → q < w → at (each f ys ++ rest) (i * w + q) ≡ at (f (at ys i)) q
unfolding each
each_at f w h [] rest i q l g = absurd (omega arith)
each_at f w h (y ∷ ys) rest zero q l g =
    let e : 0 * w + q ≡ q = rw (zero-mul w) (omega arith) in
    rw (e, append_assoc (f y) (each f ys) rest) (get_d_first (f y) (each f ys ++ rest) q (omega (arith, h y)))
each_at f w h (y ∷ ys) rest (suc i) q l g =
    let e : suc i * w + q ≡ length (f y) + (i * w + q) = rw (suc-mul i w, h y) (omega arith) in
    rw (e, append_assoc (f y) (each f ys) rest, get_or-append-add (f y) (each f ys ++ rest) (i * w + q) nan) (each_at f w h ys rest i q (omega arith) g)

each_none : (ys : List Float) → each (λ y. []) ys ≡ []
unfolding each
each_none [] = refl
each_none (y ∷ ys) = each_none ys

-- ---- the row of one c, in blank slices
pub row_is : (kind : Kind) (m n allowance : ℕ) (c : Float) (v : List Float) (s : List ℕ) (w u : List Float) (f : List ℕ) (a : Numbered Slices) → v ≡ replicate 200 #0 → s ≡ replicate 200 0
    → w ≡ replicate 200 #0 → u ≡ replicate 200 #0 → f ≡ replicate 200 0 → a ≡ row_of kind (mode_with m n c) allowance (slices v s w u f)
    → (a.number ≡ (row_for kind m n allowance c).number) × (at a.after.values (n - m) ≡ cv_for kind m n allowance c)
unfolding cv_for blank_slices
row_is kind m n allowance c v s w u f a hv hs hw hu hf e =
    let is : a ≡ row_for kind m n allowance c = e ∙ rw (hv, hs, hw, hu, hf) in
    (ap (λ (r : Numbered Slices). r.number) is, ap (λ (r : Numbered Slices). at r.after.values (n - m)) is)

-- one value more
pub value_put : (f : Float → Float) (cvs cs : List Float) (i : ℕ) (v : Float) → i < length cvs → ((j : ℕ) → j < i → at cvs j ≡ f (at cs j)) → v ≡ f (at cs i)
    → (j : ℕ) → j < i + 1 → at (set cvs i v) j ≡ f (at cs j)
value_put f cvs cs i v l before e j h = pick (ℕ_discrete j i)
  where
    pick : Dec (j ≡ i) → at (set cvs i v) j ≡ f (at cs j)
    pick (yes s) = rw (s, get_or-set_same cvs i v nan l) e
    pick (no d) = get_or-set_other cvs i j v nan d ∙ before j (omega arith)

-- ---- the pairs of accepted lists are those of `aswfa`
module _ (kind : Kind) (m n : ℕ) (c cv : Float) (u : mode_refusal (mode_with m n c) ≡ 0) (finite : not_finite cv ≡ false) where
  pub answer_is : (x : Float) → argument_refusal x ≡ 0 → let p = aswfa m n c cv (sign_of kind) x in angular_of kind (mode_with m n c) cv x ≡ Pair p.value p.derivative
  unfolding angular_of angular_refusal angular_pair
  answer_is x h = let o = no_number (outside x) 8 (omega arith) h in rw (u, finite, o)

  pub pairs_are : (xs : List Float) → first_refusal argument_refusal xs ≡ 0 → each (λ x. pair_of (angular_of kind (mode_with m n c) cv x)) xs ≡ in_turn (aswfa m n c cv (sign_of kind)) xs
  unfolding each in_turn first_refusal pair_of
  pairs_are [] h = refl
  pairs_are (x ∷ xs) h = let z = none (argument_refusal x) _ h in rw (answer_is x z, pairs_are xs (rw z at h))

-- so are those of an accepted sheet, with the value of each row, which is finite
module _ (kind : Kind) (m n allowance : ℕ) (xs : List Float) where
  pub value_finite : (c : Float) → row_refusal_for kind m n allowance c ≡ 0 → not_finite (cv_for kind m n allowance c) ≡ false
  unfolding cv_for
  value_finite c h = finite_row kind (mode_with m n c) allowance blank_slices h (n - m) (omega arith)

  -- the pairs of one c
  abbrev pub pairs_of : Float → List Float
  pairs_of c = in_turn (aswfa m n c (cv_for kind m n allowance c) (sign_of kind)) xs

  pub accepted_pairs : (cs : List Float) → first_refusal (λ c. mode_refusal (mode_with m n c)) cs ≡ 0 → first_refusal argument_refusal xs ≡ 0 → first_refusal (row_refusal_for kind m n allowance) cs ≡ 0
      → pairs kind m n allowance cs xs ≡ each pairs_of cs
  unfolding pairs
  accepted_pairs cs hc hx hr =
      each_same _ _ cs
      (λ (i : ℕ) (l : i < length cs).
      pairs_are kind m n (at cs i) (cv_for kind m n allowance (at cs i)) (all_pass (λ c. mode_refusal (mode_with m n c)) cs hc i l)
      (value_finite (at cs i) (all_pass (row_refusal_for kind m n allowance) cs hr i l)) xs hx)

-- without an x there are none
pub no_pairs : (kind : Kind) (m n allowance : ℕ) (cs xs : List Float) → length xs ≡ 0 → pairs kind m n allowance cs xs ≡ []
unfolding pairs each
no_pairs kind m n allowance cs [] e = each_none cs
no_pairs kind m n allowance cs (x ∷ xs) e = absurd (omega arith)

-- ---- the sheet
module _ (kind : Kind) (m n allowance : ℕ) (cs xs block : List Float) (k : ℕ) (hk : k ≡ lists_refusal m n cs xs (length block)) where
  pub sheet_early : (k ≡ 0 → ⊥) → answer k block ≡ sheet_of kind m n allowance cs xs block
  unfolding sheet_of sheet_refusal
  sheet_early h = rw (← hk, ne_eqb k 0 h, ne_eqb k 0 h)

  module _ (z : k ≡ 0) where
    pub sheet_empty : length xs ≡ 0 → answer 0 block ≡ sheet_of kind m n allowance cs xs block
    unfolding sheet_of sheet_refusal
    sheet_empty e = rw (← hk, z, e, no_pairs kind m n allowance cs xs e, mul-zero (length cs))

    module _ (some : length xs ≡ 0 → ⊥) (j : ℕ) (hj : j ≡ first_refusal (row_refusal_for kind m n allowance) cs) where
      pub sheet_refused : (j ≡ 0 → ⊥) → answer j block ≡ sheet_of kind m n allowance cs xs block
      unfolding sheet_of sheet_refusal
      sheet_refused h = rw (← hk, z, ne_eqb (length xs) 0 some, ← hj, ne_eqb j 0 h)

      pub sheet_done : (ys : List Float) → j ≡ 0 → ys ≡ each (pairs_of kind m n allowance xs) cs ++ drop (2 * (length cs * length xs)) block → answer 0 ys ≡ sheet_of kind m n allowance cs xs block
      unfolding sheet_of sheet_refusal
      sheet_done ys zj e =
          let p = passed m n cs xs (length block) (sym hk ∙ z) in
          rw (← hk, z, ne_eqb (length xs) 0 some, ← hj, zj, accepted_pairs kind m n allowance xs cs p.parameters p.arguments (sym hj ∙ zj), e)

-- ---- a sheet that is not refused
module _ (kind : Kind) (m n allowance : ℕ) (cs xs block : List Float) where
  pub record Given : Type 0 where
    pub lists : Passed m n cs xs (length block)
    pub rows : (length xs ≡ 0 → ⊥) → first_refusal (row_refusal_for kind m n allowance) cs ≡ 0
    pub is : (sheet_of kind m n allowance cs xs block).after ≡ pairs kind m n allowance cs xs ++ drop (2 * (length cs * length xs)) block

  pub given : (sheet_of kind m n allowance cs xs block).number ≡ 0 → Given
  unfolding sheet_of sheet_refusal
  given h = go (eqb k 0) refl
    where
      lists : ℕ
      lists = lists_refusal m n cs xs (length block)

      rows : ℕ
      rows = cond (eqb (length xs) 0) 0 (first_refusal (row_refusal_for kind m n allowance) cs)

      k : ℕ
      k = or_else lists rows

      go : (t : Bool) → eqb k 0 ≡ t → Given
      go true e =
          let z = none lists rows (eqb-true k 0 e) in
          record {
            lists = passed m n cs xs (length block) z;
            rows = λ some. rw (ne_eqb (length xs) 0 some) at (rw z at (eqb-true k 0 e));
            is = rw e;
          }
      go false e = let w : k ≡ 0 = rw e at h in absurd (eqb-false k 0 e w)

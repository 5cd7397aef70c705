-- What lanes come to is what the families of rows come to. Assumes nothing.
use Prim.Native.Nat.{ℕ, suc, ◌+◌, ◌-◌, ◌*◌, ◌/◌, ◌%◌, ◌≤◌, ◌<◌}
use mathlib.Core.Path.{◌≡◌, refl, sym, ◌∙◌}
use mathlib.Core.Bool.{true, false}
use mathlib.Core.List.{List}
use native.Mathlib.Omega.{arith}
use native.Mathlib.Decide.{ℕ_discrete}
use lib.Ieee.{Float}
use lib.ListN.{length, get_or, set, replicate, length-set, length-replicate}
use lib.Seq.{get_or-set_same, get_or-set_other}
use Rattle.std.specs.Prelude.{Option, Some, None, Ok, Err, is_some}
use Rattle.arith.specs.Double.{#0, at}
use Rattle.arith.proofs.Flags.{not_left, neither}
use Rattle.sturm.specs.declared.gershgorin_bounds.Bounds.{Bounds}
use Rattle.sturm.specs.Bounds.{bounds_of}
use Rattle.sturm.specs.Entries.{diagonal, off_diagonal}
use Rattle.segv.specs.declared.ends.Ends.{Ends}
use Rattle.segv.specs.Families.{Family, Families, ends_within, stopped, brackets, blank_bracket, bisected_family, family_of, both_families, either_stopped}
use Rattle.segv.specs.Row.{no_bracket, mode_at}
use Rattle.lanes.specs.declared.entries.Matrices.{Matrices}
use Rattle.lanes.specs.Lanes.{Holds, SameLane}
use Rattle.lanes.proofs.Laws.{one_more}
use Rattle.last_values.specs.declared.lane.Lane.{Lane}
use Rattle.last_values.specs.Lane.{Last, outcome_or, comes_to, started_at, stopped_in, value_in}
use Rattle.last_values.specs.Lanes.{no_lane, lane_of, Went}
use Rattle.last_values.specs.Values.{last_of, Opened}
use Rattle.last_values.proofs.Family.{last_in, last_agrees}
use Rattle.last_values.proofs.Laws.{started_comes}

-- a lane with its family's matrix and first place
pub opened_is : (m parity : ℕ) (cs : Float) (entries places allowance j : ℕ) (x : Matrices) (d e : List Float) (k : ℕ) (b : Bounds) (s : Ends) (t : Lane) → 0 < places
    → d ≡ diagonal m parity cs entries → e ≡ off_diagonal m parity cs entries → k ≡ entries → b ≡ bounds_of d e k → s ≡ ends_within b
    → t ≡ started_at 0 places allowance s → k ≤ x.entries → Holds x.d x.e j k d e → Opened m parity cs entries places allowance j x t
unfolding last_of
opened_is m parity cs entries places allowance j x d e k b s t some hd he hk hb hs ht few h =
    let more : places ≡ suc (places - (0 + 1)) = omega arith in
    record {
      few = rw (← hk) few;
      holds = rw (← hd, ← he, ← hk) h;
      comes = rw (ht, started_comes places allowance (diagonal m parity cs entries) (off_diagonal m parity cs entries) entries places 0 s #0 more, hs, hb, hd, he, hk);
      inside = λ z. rw ht some;
    }

-- ---- the first j lanes are open
module _ (m : ℕ) (cs : List Float) (entries : List ℕ) (places allowance : ℕ) where
  -- lane i has the family of parity i % 2 of matrix i / 2
  abbrev OpenedAt : ℕ → Matrices → Lane → Type 0
  OpenedAt i x l = Opened m (i % 2) (at cs (i / 2)) (get_or entries (i / 2) 0) places allowance i x l

  pub record Openings (x : Matrices) (ls : List Lane) (j : ℕ) : Type 0 where
    pub eight : length ls ≡ 8
    pub done : (i : ℕ) → i < j → OpenedAt i x (lane_of ls i)

  module _ (x : Matrices) (ls : List Lane) (j : ℕ) (o : Openings x ls j) (less : j < 8) (x' : Matrices) (most : x.entries ≤ x'.entries)
      (same : (i : ℕ) → i < 8 → (i ≡ j → ⊥) → SameLane x.d x'.d i × SameLane x.e x'.e i) where
    pub openings_on : (t : Lane) → OpenedAt j x' t → Openings x' (set ls j t) (j + 1)
    openings_on t new =
        let e = o.eight in
        record {
          eight = length-set ls j t ∙ e;
          done = one_more (λ (i : ℕ). OpenedAt i x' (lane_of (set ls j t) i)) j
              (λ (i : ℕ) (l : i < j). let other : i ≡ j → ⊥ = λ (q : i ≡ j). omega arith in rw (get_or-set_other ls j i t no_lane other) (still i (omega arith) other (o.done i l)))
              (rw (get_or-set_same ls j t no_lane (omega (arith, e))) new);
        }
      where
        still : (i : ℕ) → i < 8 → (i ≡ j → ⊥) → {l : Lane} → OpenedAt i x l → OpenedAt i x' l
        still i a other h =
            let s = same i a other in
            record {
              few = let f = h.few in omega (arith, most);
              holds = record { diagonal = λ q b. s.0 q ∙ h.holds.diagonal q b; roots = λ q b. s.1 q ∙ h.holds.roots q b; past = λ q b c. s.0 q ∙ h.holds.past q b c };
              comes = h.comes;
              inside = h.inside;
            }

-- ---- lanes that are through

-- such a lane has what it came to
pub ended_is : (d e : List Float) (entries places allowance : ℕ) (l : Lane) (r : Last) → is_some l.outcome ≡ true → comes_to d e entries places allowance l ≡ r → l.outcome ≡ Some r
unfolding comes_to
ended_is d e entries places allowance l r h c = pick l.outcome _ h c
  where
    pick : (o : Option Last) (later : Last) → is_some o ≡ true → outcome_or o later ≡ r → o ≡ Some r
    pick (Some v) later h c = rw c
    pick None later h c = absurd (not_left (sym h))

-- what a family's last place has
pub family_last : (m parity : ℕ) (cs : Float) (entries places allowance : ℕ) → places ≤ 100 → last_in (family_of m parity cs entries places allowance) (places - 1) ≡ last_of m parity cs entries places allowance
unfolding family_of bisected_family last_of blank_bracket
family_last m parity cs entries places allowance h =
    let q : 0 + places - 1 ≡ places - 1 = omega arith in
    rw (← q) (last_agrees _ _ entries places allowance places 0 _ (replicate 100 blank_bracket) #0 (length-replicate 100 blank_bracket) (omega arith) refl)

stopped_same : (f : Family) (q : ℕ) → stopped_in (Some (last_in f q)) ≡ stopped f
stopped_same (Ok out) q = refl
stopped_same (Err e) q = refl

value_same : (f : Family) (q : ℕ) → stopped f ≡ false → value_in (Some (last_in f q)) ≡ (get_or (brackets f) q no_bracket).value
value_same (Ok out) q h = refl
value_same (Err e) q h = absurd (not_left h)

-- each lane has what the family of its parity and its matrix comes to
abbrev pub Through : ℕ → List Float → List ℕ → ℕ → ℕ → List Lane → Type 0
Through m cs entries places allowance ls = (j : ℕ) → j < 8 → (lane_of ls j).outcome ≡ Some (last_of m (j % 2) (at cs (j / 2)) (get_or entries (j / 2) 0) places allowance)

pub all_through : (m : ℕ) (cs : List Float) (entries : List ℕ) (places allowance : ℕ) (x : Matrices) (ls ls' : List Lane)
    → ((j : ℕ) → j < 8 → OpenedAt m cs entries places allowance j x (lane_of ls j))
    → Went x places allowance ls ls' → ((j : ℕ) → j < 8 → is_some (lane_of ls' j).outcome ≡ true) → Through m cs entries places allowance ls'
all_through m cs entries places allowance x ls ls' o w ended j l =
    ended_is _ _ _ places allowance (lane_of ls' j) _ (ended j l) (w.comes j _ _ _ l (o j l).few (o j l).holds ∙ (o j l).comes)

-- the lanes of four rows
module _ (m n : ℕ) (cs : List Float) (entries : List ℕ) (allowance places : ℕ) (half : places ≡ (n - m + 2) / 2) (near : n < m + 200) (ls : List Lane)
    (through : Through m cs entries places allowance ls) where
  abbrev Row : ℕ → Families
  Row q = both_families m n (at cs q) (get_or entries q 0) allowance

  abbrev Fam : ℕ → ℕ → Family
  Fam q parity = family_of m parity (at cs q) (get_or entries q 0) ((n - m + 2) / 2) allowance

  -- the lane of a family
  lane_family : (q parity : ℕ) → q < 4 → parity < 2
      → (stopped_in (lane_of ls (2 * q + parity)).outcome ≡ stopped (Fam q parity))
      × (stopped (Fam q parity) ≡ false → value_in (lane_of ls (2 * q + parity)).outcome ≡ (get_or (brackets (Fam q parity)) ((n - m) / 2) no_bracket).value)
  lane_family q parity l a =
      let one : (2 * q + parity) % 2 ≡ parity = omega arith in
      let two : (2 * q + parity) / 2 ≡ q = omega arith in
      let last : (n - m + 2) / 2 - 1 ≡ (n - m) / 2 = omega arith in
      let t = rw (one, two, half) at (through (2 * q + parity) (omega arith)) in
      let g = rw last at (family_last m parity (at cs q) (get_or entries q 0) ((n - m + 2) / 2) allowance (omega arith)) in
      let is : (lane_of ls (2 * q + parity)).outcome ≡ Some (last_in (Fam q parity) ((n - m) / 2)) = rw g t in
      (rw is (stopped_same _ _), λ z. rw is (value_same _ _ z))

  -- where no lane was stopped, no row is, and the values are the rows'
  pub rows_given : ((j : ℕ) → j < 8 → stopped_in (lane_of ls j).outcome ≡ false) → (q : ℕ) → q < 4 → (either_stopped (Row q) ≡ false) × (value_in (lane_of ls (2 * q + (n - m) % 2)).outcome ≡ (mode_at (Row q) (n - m)).value)
  unfolding both_families either_stopped mode_at
  rows_given none q l = (rw (stays 0 (omega arith), stays 1 (omega arith)), pick (ℕ_discrete ((n - m) % 2) 0))
    where
      stays : (parity : ℕ) → parity < 2 → stopped (Fam q parity) ≡ false
      stays parity a = sym (lane_family q parity l a).0 ∙ none (2 * q + parity) (omega arith)

      pick : Dec ((n - m) % 2 ≡ 0) → value_in (lane_of ls (2 * q + (n - m) % 2)).outcome ≡ (mode_at (Row q) (n - m)).value
      pick (yes e) = rw e ((lane_family q 0 l (omega arith)).1 (stays 0 (omega arith)))
      pick (no e) = let o : (n - m) % 2 ≡ 1 = omega arith in rw o ((lane_family q 1 l (omega arith)).1 (stays 1 (omega arith)))

  -- and where no row is, no lane was
  pub lanes_through : ((q : ℕ) → q < 4 → either_stopped (Row q) ≡ false) → (j : ℕ) → j < 8 → stopped_in (lane_of ls j).outcome ≡ false
  unfolding both_families either_stopped
  lanes_through none j l = pick (ℕ_discrete (j % 2) 0)
    where
      pick : Dec (j % 2 ≡ 0) → stopped_in (lane_of ls j).outcome ≡ false
      pick (yes e) = let i : j ≡ 2 * (j / 2) + 0 = omega arith in rw i ((lane_family (j / 2) 0 (omega arith) (omega arith)).0 ∙ (neither (stopped (Fam (j / 2) 0)) (stopped (Fam (j / 2) 1)) (none (j / 2) (omega arith))).0)
      pick (no e) = let i : j ≡ 2 * (j / 2) + 1 = omega arith in rw i ((lane_family (j / 2) 1 (omega arith) (omega arith)).0 ∙ (neither (stopped (Fam (j / 2) 0)) (stopped (Fam (j / 2) 1)) (none (j / 2) (omega arith))).1)

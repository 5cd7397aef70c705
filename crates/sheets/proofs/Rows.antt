-- Rows of several parameters at once are the single rows. Assumes nothing.
use Prim.Native.Nat.{ℕ, zero, suc, ◌+◌, ◌-◌, ◌≤◌, ◌<◌}
use mathlib.Core.Path.{◌≡◌, refl, sym, ap, ◌∙◌}
use mathlib.Core.Bool.{Bool, true, false}
use mathlib.Core.List.{List, [], ◌∷◌}
use native.Mathlib.Omega.{arith}
use native.Mathlib.Decide.{dec_le}
use lib.Ieee.{Float, nan, of_bits}
use lib.ListN.{length, get_or, drop, replicate, length-replicate}
use Rattle.arith.specs.Double.{at, #0}
use Rattle.arith.proofs.Laws.{whole_below}
use Rattle.segv.specs.Families.{Families, both_families, either_stopped}
use Rattle.segv.specs.declared.bisection.Bracket.{Bracket}
use Rattle.segv.specs.Row.{Slices, Numbered, answer, mode_at, written_row, segv_row}
use Rattle.requests.specs.declared.checking.Kind.{Kind}
use Rattle.requests.specs.declared.checking.Mode.{Mode}
use Rattle.requests.specs.Refusals.{cs_of, entries_of, mode_refusal}
use Rattle.expansion.specs.Terms.{h_of, #175}
use Rattle.requests.proofs.Laws.{accepted, usable}
use Rattle.rows.specs.Rows.{row_of, row_in, too_short, blank_slices}
use Rattle.rows.proofs.Filled.{written_at, blank_room}
use Rattle.sheets.specs.Sheet.{mode_with, first_refusal, row_for, row_refusal_for, cv_for}
use Rattle.requests.specs.declared.refusals.Refusal.{Refusal}
use Rattle.requests.specs.declared.refusals.Refusal.TheVariants.{OutOfSteps}
use Rattle.requests.specs.Answers.{number_of}
use Rattle.std.specs.Prelude.{Ok, Err}
use Rattle.sheets.specs.Inside.Parameters.{Bisected, RowsFrom, Put}
use Rattle.sheets.proofs.Laws.{first_later, first_stop}

-- ---- the first refusal of a list, from place i on
module _ (refusal : Float → ℕ) (ys : List Float) where
  -- n elements that are not refused
  pub later_some : (n i : ℕ) → i + n ≤ length ys → ((q : ℕ) → q < n → refusal (at ys (i + q)) ≡ 0) → first_refusal refusal (drop i ys) ≡ first_refusal refusal (drop (i + n) ys)
  later_some zero i l h = let e : i + 0 ≡ i = omega arith in rw e
  later_some (suc n) i l h =
      let e : i + 0 ≡ i = omega arith in
      let s : i + suc n ≡ i + 1 + n = omega arith in
      first_later refusal ys i (omega arith) (rw e at (h 0 (omega arith)))
      ∙ rw s (later_some n (i + 1) (omega arith) (λ (q : ℕ) (a : q < n). let f : i + 1 + q ≡ i + suc q = omega arith in rw f (h (suc q) (omega arith))))

  -- n elements of which those that t tells are refused 10, and of which some is
  pub first_of : (n i : ℕ) (t : ℕ → Bool) → i + n ≤ length ys → ((q : ℕ) → q < n → (t q ≡ true → refusal (at ys (i + q)) ≡ 10) × (t q ≡ false → refusal (at ys (i + q)) ≡ 0))
      → (((q : ℕ) → q < n → t q ≡ false) → ⊥) → 10 ≡ first_refusal refusal (drop i ys)
  first_of zero i t l h some = absurd (some (λ q a. absurd (omega arith)))
  first_of (suc n) i t l h some =
      let e : i + 0 ≡ i = omega arith in
      let here = rw e at (h 0 (omega arith)) in
      go (t 0) refl here.0 here.1
      (λ (z : t 0 ≡ false).
      first_of n (i + 1) (λ q. t (suc q)) (omega arith) (λ (q : ℕ) (a : q < n). let f : i + 1 + q ≡ i + suc q = omega arith in rw f (h (suc q) (omega arith)))
      (λ (none : (q : ℕ) → q < n → t (suc q) ≡ false). some (all_of z none)))
    where
      all_of : t 0 ≡ false → ((q : ℕ) → q < n → t (suc q) ≡ false) → (q : ℕ) → q < suc n → t q ≡ false
      all_of z none zero a = z
      all_of z none (suc q) a = none q (omega arith)

      go : (b : Bool) → t 0 ≡ b → (t 0 ≡ true → refusal (at ys i) ≡ 10) → (t 0 ≡ false → refusal (at ys i) ≡ 0) → (t 0 ≡ false → 10 ≡ first_refusal refusal (drop (i + 1) ys)) → 10 ≡ first_refusal refusal (drop i ys)
      go true e ten none later = first_stop refusal ys i 10 (omega arith) (sym (ten e)) (λ z. omega arith)
      go false e ten none later = later e ∙ sym (first_later refusal ys i (omega arith) (none e))

-- ---- the row of a c that is bisected

-- its matrix has few entries, since H stays below 175
pub entries_few : (x : Mode) → mode_refusal x ≡ 0 → entries_of x ≤ 192
unfolding entries_of of_bits
entries_few x h = let w = whole_below (h_of (x.n - x.m) x.c) #175 175 (refl, refl) (omega arith) (usable x h).4 in omega (arith, w)

abbrev families : Kind → ℕ → ℕ → ℕ → Float → Families
families kind m n allowance c = both_families m n (cs_of kind (mode_with m n c)) (entries_of (mode_with m n c)) allowance

module _ (kind : Kind) (m n allowance : ℕ) (c : Float) (b : Bisected m n c) where
  abbrev both : Families
  both = families kind m n allowance c

  abbrev room : too_short (mode_with m n c) blank_slices ≡ false
  room = blank_room (mode_with m n c) (accepted (mode_with m n c) b.0)

  stopped_is : either_stopped both ≡ true → row_for kind m n allowance c ≡ answer 10 blank_slices
  unfolding row_of row_in segv_row
  stopped_is h = rw (b.0, room, b.1, h)

  given_is : either_stopped both ≡ false → row_for kind m n allowance c ≡ answer 0 (written_row (mode_at both) (n - m + 1) blank_slices)
  unfolding row_of row_in segv_row
  given_is h = rw (b.0, room, b.1, h)

  row_stops : either_stopped both ≡ true → row_refusal_for kind m n allowance c ≡ 10
  row_stops h = ap (λ (r : Numbered Slices). r.number) (stopped_is h)

  row_given : either_stopped both ≡ false → (row_refusal_for kind m n allowance c ≡ 0) × (cv_for kind m n allowance c ≡ (mode_at both (n - m)).value)
  unfolding cv_for written_row blank_slices
  row_given h =
      let a = accepted (mode_with m n c) b.0 in
      let size = length-replicate 200 #0 in (
        ap (λ (r : Numbered Slices). r.number) (given_is h),
        ap (λ (r : Numbered Slices). at r.after.values (n - m)) (given_is h)
            ∙ written_at (λ (r : Bracket). r.value) (mode_at both) (replicate 200 #0) nan (n - m + 1) (n - m) (omega arith) (omega (arith, size, a.span)),
      )

-- ---- what the rows of one c, or of four, come to
module _ (kind : Kind) (m n allowance : ℕ) (cs : List Float) (i : ℕ) where
  pub rows_one : (v : Float) → i < length cs → row_refusal_for kind m n allowance (at cs i) ≡ 0 → v ≡ cv_for kind m n allowance (at cs i)
      → RowsFrom kind m n allowance cs i (Ok (record { count = 1; values = v ∷ #0 ∷ #0 ∷ #0 ∷ [] }))
  rows_one v l hk hv =
      record {
        given = record { some = omega arith; few = omega arith; within = omega arith; given = λ q a. let e : q ≡ 0 = omega arith in let f : i + 0 ≡ i = omega arith in rw (e, f) (hk, hv) };
        refused = λ h. absurd (h refl);
      }

  pub rows_one_refused : (refusal : Refusal) → i < length cs → number_of refusal ≡ row_refusal_for kind m n allowance (at cs i) → RowsFrom kind m n allowance cs i (Err refusal)
  rows_one_refused refusal l hk = record { given = tt; refused = λ h. first_stop (row_refusal_for kind m n allowance) cs i (number_of refusal) l hk h }

  module _ (l : i + 4 ≤ length cs) (b : (q : ℕ) → q < 4 → Bisected m n (at cs (i + q))) (squares : List Float) (entries : List ℕ)
      (hs : (q : ℕ) → q < 4 → at squares q ≡ cs_of kind (mode_with m n (at cs (i + q)))) (he : (q : ℕ) → q < 4 → get_or entries q 0 ≡ entries_of (mode_with m n (at cs (i + q)))) where
    abbrev Row : ℕ → Families
    Row q = both_families m n (at squares q) (get_or entries q 0) allowance

    is : (q : ℕ) → q < 4 → Row q ≡ families kind m n allowance (at cs (i + q))
    is q a = rw (hs q a, he q a)

    pub rows_four_refused : (((q : ℕ) → q < 4 → either_stopped (Row q) ≡ false) → ⊥) → RowsFrom kind m n allowance cs i (Err OutOfSteps)
    rows_four_refused h =
        record {
          given = tt;
          refused = λ _. first_of (row_refusal_for kind m n allowance) cs 4 i (λ q. either_stopped (Row q)) l
              (λ (q : ℕ) (a : q < 4). (λ e. row_stops kind m n allowance (at cs (i + q)) (b q a) (rw (is q a) at e), λ e. (row_given kind m n allowance (at cs (i + q)) (b q a) (rw (is q a) at e)).0)) h;
        }

    pub rows_four : (v : List Float) → ((q : ℕ) → q < 4 → (either_stopped (Row q) ≡ false) × (at v q ≡ (mode_at (Row q) (n - m)).value)) → RowsFrom kind m n allowance cs i (Ok (record { count = 4; values = v }))
    rows_four v h =
        record {
          given = record {
            some = omega arith;
            few = omega arith;
            within = l;
            given = λ q a. let g = row_given kind m n allowance (at cs (i + q)) (b q a) (rw (is q a) at (h q a).0) in (g.0, (rw (is q a) at (h q a).1) ∙ sym g.1);
          };
          refused = λ z. absurd (z refl);
        }

-- ---- values in their places
pub values_put : (f : Float → Float) (cs before after v : List Float) (i k : ℕ) → Put v k i before after → ((j : ℕ) → j < i → at before j ≡ f (at cs j)) → ((q : ℕ) → q < k → at v q ≡ f (at cs (i + q)))
    → (j : ℕ) → j < i + k → at after j ≡ f (at cs j)
values_put f cs before after v i k put old new j l = pick (dec_le i j)
  where
    pick : Dec (i ≤ j) → at after j ≡ f (at cs j)
    pick (yes h) = let e : j ≡ i + (j - i) = omega arith in rw e (put.new (j - i) (omega arith) ∙ new (j - i) (omega arith))
    pick (no h) = put.kept j (omega arith) ∙ old j (omega arith)

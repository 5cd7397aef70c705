-- What the input has from a byte on, and how the definitions of a stream unfold by it. Assumes nothing.
use Prim.Native.Nat.{ℕ, zero, suc, ◌+◌, ◌-◌, ◌≤◌, ◌<◌}
use mathlib.Core.Path.{◌≡◌, refl, sym, subst, ◌∙◌}
use mathlib.Core.Logic.{◌⊎◌, inl, inr, ⊎_elim}
use mathlib.Core.Bool.{Bool, true, false}
use mathlib.Core.List.{List, [], ◌∷◌, ◌++◌}
use native.Mathlib.Omega.{arith}
use borrow.Author.Tests.{leb-true, leb-false, le-leb, lt-leb, le-ltb, ltb-true, ltb-false, eqb-true, eqb-false, eq-eqb}
use lib.Dec.{eqb, leb, ltb}
use lib.ListN.{length, get_or, length-append, get_or-append}
use Rattle.records.specs.declared.record.Next.{Next}
use Rattle.records.specs.declared.record.Next.TheVariants.{Whole, Unmarked, Cut, End}
use Rattle.records.specs.declared.record.Record.{Record}
use Rattle.records.specs.Record.{next_at, number_at, width_at, record_at}
use Rattle.records.specs.Lines.{r_line}
use Rattle.records.proofs.Laws.{width_known}
use Rattle.stream.specs.Response.{response_to}
use Rattle.stream.specs.Inside.Calls.{Answered, answered_in, longest}

-- ---- what each case tells
pub record IsWhole (input : List ℕ) (at : ℕ) (r : Record) (size : ℕ) : Type 0 where
  pub width : ℕ
  pub by_mark : width ≡ width_at input at
  pub known : (width ≡ 2) ⊎ (width ≡ 4)
  pub fields : r ≡ record_at input at width
  pub sized : size ≡ 31 + width
  pub least : 33 ≤ size
  pub most : size ≤ 35
  pub fits : at + size ≤ length input

unfoldable pub Told : List ℕ → ℕ → Next → Type 0
Told input at End = length input ≤ at
Told input at Cut = (at < length input) × (length input < at + 35)
Told input at Unmarked = (at + 2 ≤ length input) × (width_at input at ≡ 0)
Told input at (Whole r size) = IsWhole input at r size

told_here : (input : List ℕ) (at : ℕ) → Told input at (next_at input at)
unfolding next_at Told
told_here input at = first (leb (length input) at) refl
  where
    left : ℕ
    left = length input - at

    width : ℕ
    width = width_at input at

    whole : (width ≡ 2) ⊎ (width ≡ 4) → 31 + width ≤ left → at < length input → IsWhole input at (record_at input at width) (31 + width)
    whole known enough some =
        record {
          width = width;
          by_mark = refl;
          known = known;
          fields = refl;
          sized = refl;
          least = ⊎_elim (λ e. omega arith) (λ e. omega arith) known;
          most = ⊎_elim (λ e. omega arith) (λ e. omega arith) known;
          fits = omega arith;
        }

    fourth : leb (length input) at ≡ false → ltb left 2 ≡ false → eqb width 0 ≡ false → (t : Bool) → ltb left (31 + width) ≡ t → Told input at (next_at input at)
    fourth a b d true e =
        let some = leb-false (length input) at a in
        let short = ltb-true left (31 + width) e in
        rw (a, b, d, e) (some, ⊎_elim (λ w. omega arith) (λ w. omega arith) (width_known input at refl (eqb-false width 0 d)))
    fourth a b d false e = rw (a, b, d, e) (whole (width_known input at refl (eqb-false width 0 d)) (ltb-false left (31 + width) e) (leb-false (length input) at a))

    third : leb (length input) at ≡ false → ltb left 2 ≡ false → (t : Bool) → eqb width 0 ≡ t → Told input at (next_at input at)
    third a b true d =
        let some = leb-false (length input) at a in
        let two = ltb-false left 2 b in
        rw (a, b, d) (omega arith, eqb-true width 0 d)
    third a b false d = fourth a b d (ltb left (31 + width)) refl

    second : leb (length input) at ≡ false → (t : Bool) → ltb left 2 ≡ t → Told input at (next_at input at)
    second a true b =
        let some = leb-false (length input) at a in
        let one = ltb-true left 2 b in
        rw (a, b) (some, omega arith)
    second a false b = third a b (eqb width 0) refl

    first : (t : Bool) → leb (length input) at ≡ t → Told input at (next_at input at)
    first true a = rw a (leb-true (length input) at a)
    first false a = second a (ltb left 2) refl

pub told : (input : List ℕ) (at : ℕ) {x : Next} → next_at input at ≡ x → Told input at x
told input at e = subst (Told input at) e (told_here input at)

pub whole_told : (input : List ℕ) (at : ℕ) {r : Record} {size : ℕ} → next_at input at ≡ Whole r size → IsWhole input at r size
unfolding Told
whole_told input at e = told input at e

-- ---- and back
pub at_end : (input : List ℕ) (at : ℕ) → length input ≤ at → next_at input at ≡ End
unfolding next_at
at_end input at h = rw (le-leb (length input) at h)

pub at_unmarked : (input : List ℕ) (at : ℕ) → at + 2 ≤ length input → width_at input at ≡ 0 → next_at input at ≡ Unmarked
unfolding next_at
at_unmarked input at h e = rw (lt-leb (length input) at (omega arith), le-ltb (length input - at) 2 (omega arith), eq-eqb (width_at input at) 0 e)

pub at_whole : (input : List ℕ) (at width : ℕ) → (width ≡ 2) ⊎ (width ≡ 4) → width_at input at ≡ width → at + (31 + width) ≤ length input → next_at input at ≡ Whole (record_at input at width) (31 + width)
unfolding next_at
at_whole input at width known e h =
    let unlike : eqb width 0 ≡ false = ⊎_elim (λ w. rw w) (λ w. rw w) known in
    rw (lt-leb (length input) at (omega arith), le-ltb (length input - at) 2 (omega arith), e, unlike, le-ltb (length input - at) (31 + width) (omega arith))

-- less than a record is left
abbrev pub Through : List ℕ → ℕ → Type 0
Through input at = (next_at input at ≡ End) ⊎ (next_at input at ≡ Cut)

-- ---- one call
module _ (left : ℕ) (input : List ℕ) (room at index : ℕ) (text : List ℕ) where
  abbrev stopped : Answered
  stopped = record { text = text; at = at; index = index; refused = false }

  -- the buffer may be too full for another record
  pub answered_full : leb (length text + longest) room ≡ false → answered_in left input room at index text ≡ stopped
  unfolding answered_in
  answered_full h = go left
    where
      go : (l : ℕ) → answered_in l input room at index text ≡ stopped
      go zero = refl
      go (suc l) = rw (h, answered_in)

  module _ (h : leb (length text + longest) room ≡ true) where
    pub answered_through : Through input at → answered_in left input room at index text ≡ stopped
    unfolding answered_in
    answered_through e = go left e
      where
        go : (l : ℕ) → Through input at → answered_in l input room at index text ≡ stopped
        go zero e = refl
        go (suc l) (inl e) = rw (h, e, answered_in)
        go (suc l) (inr e) = rw (h, e, answered_in)

    pub answered_unmarked : length input - at ≤ left → next_at input at ≡ Unmarked → answered_in left input room at index text ≡ record { text = text ++ r_line index 2; at = at; index = index; refused = true }
    unfolding answered_in Told
    answered_unmarked enough e = go left enough
      where
        go : (l : ℕ) → length input - at ≤ l → answered_in l input room at index text ≡ record { text = text ++ r_line index 2; at = at; index = index; refused = true }
        go zero q = let w = told input at e in absurd (omega (arith, w.0))
        go (suc l) q = rw (h, e, answered_in)

    pub answered_whole : (r : Record) (size : ℕ) → length input - at ≤ left → next_at input at ≡ Whole r size → answered_in left input room at index text ≡ answered_in (left - 1) input room (at + size) (index + 1) (text ++ response_to index r)
    unfolding answered_in
    answered_whole r size enough e = go left enough
      where
        go : (l : ℕ) → length input - at ≤ l → answered_in l input room at index text ≡ answered_in (l - 1) input room (at + size) (index + 1) (text ++ response_to index r)
        go zero q = let w = whole_told input at e in absurd (omega (arith, w.least, w.fits))
        go (suc l) q = let w : suc l - 1 ≡ l = omega arith in rw (w, h, e, answered_in)

-- ---- the same bytes in front of others
number_front : (l rest : List ℕ) (at width : ℕ) → at + width ≤ length l → number_at (l ++ rest) at width ≡ number_at l at width
unfolding number_at
number_front l rest at zero h = refl
number_front l rest at (suc width) h = rw (get_or-append l rest 0 at (omega arith), number_front l rest (at + 1) width (omega arith))

width_front : (l rest : List ℕ) (at : ℕ) → at + 2 ≤ length l → width_at (l ++ rest) at ≡ width_at l at
width_front l rest at h = rw (get_or-append l rest 0 at (omega arith), get_or-append l rest 0 (at + 1) (omega arith))

pub record_front : (l rest : List ℕ) (at width : ℕ) → at + (31 + width) ≤ length l → record_at (l ++ rest) at width ≡ record_at l at width
record_front l rest at width h =
    rw (
      get_or-append l rest 0 (at + 2) (omega arith),
      number_front l rest (at + 3) 2 (omega arith),
      number_front l rest (at + 5) 2 (omega arith),
      number_front l rest (at + 7) width (omega arith),
      number_front l rest (at + 7 + width) 8 (omega arith),
      number_front l rest (at + 15 + width) 8 (omega arith),
      number_front l rest (at + 23 + width) 8 (omega arith),
    )

pub unmarked_front : (l rest : List ℕ) (at : ℕ) → next_at l at ≡ Unmarked → next_at (l ++ rest) at ≡ Unmarked
unfolding Told
unmarked_front l rest at e =
    let w = told l at e in
    let n = length-append l rest in
    at_unmarked (l ++ rest) at (omega (arith, w.0)) (width_front l rest at w.0 ∙ w.1)

pub whole_front : (l rest : List ℕ) (at : ℕ) {r : Record} {size : ℕ} → next_at l at ≡ Whole r size → next_at (l ++ rest) at ≡ Whole r size
whole_front l rest at {r} {size} e =
    let w = whole_told l at e in
    let n = length-append l rest in
    at_whole (l ++ rest) at w.width w.known (width_front l rest at (omega (arith, w.least, w.fits)) ∙ sym w.by_mark) (omega (arith, w.sized, w.fits))
    ∙ rw (record_front l rest at w.width (omega (arith, w.sized, w.fits)), ← w.fields, ← w.sized)

-- ---- the same bytes behind others
get_back : (l rest : List ℕ) (i j : ℕ) → j ≡ length l + i → get_or (l ++ rest) j 0 ≡ get_or rest i 0
get_back [] rest i j h = let e : j ≡ i = omega arith in rw e
get_back (x ∷ l) rest i zero h = absurd (omega arith)
get_back (x ∷ l) rest i (suc j) h = get_back l rest i j (omega arith)

number_back : (l rest : List ℕ) (i j width : ℕ) → j ≡ length l + i → number_at (l ++ rest) j width ≡ number_at rest i width
unfolding number_at
number_back l rest i j zero h = refl
number_back l rest i j (suc width) h = rw (get_back l rest i j h, number_back l rest (i + 1) (j + 1) width (omega arith))

leb_back : (a i b j d : ℕ) → b ≡ d + a → j ≡ d + i → leb b j ≡ leb a i
leb_back a i b j d p q = go (leb a i) refl
  where
    go : (t : Bool) → leb a i ≡ t → leb b j ≡ leb a i
    go true h = let e = leb-true a i h in le-leb b j (omega arith) ∙ sym h
    go false h = let e = leb-false a i h in lt-leb b j (omega arith) ∙ sym h

pub next_back : (l rest : List ℕ) (i j : ℕ) → j ≡ length l + i → next_at (l ++ rest) j ≡ next_at rest i
unfolding next_at
next_back l rest i j h =
    let n = length-append l rest in
    let left : length (l ++ rest) - j ≡ length rest - i = omega arith in
    let width : width_at (l ++ rest) j ≡ width_at rest i = rw (get_back l rest i j h, get_back l rest (i + 1) (j + 1) (omega arith)) in
    rw (
      leb_back (length rest) i (length (l ++ rest)) j (length l) n h,
      left,
      width,
      get_back l rest (i + 2) (j + 2) (omega arith),
      number_back l rest (i + 3) (j + 3) 2 (omega arith),
      number_back l rest (i + 5) (j + 5) 2 (omega arith),
      number_back l rest (i + 7) (j + 7) (width_at rest i) (omega arith),
      number_back l rest (i + 7 + width_at rest i) (j + 7 + width_at rest i) 8 (omega arith),
      number_back l rest (i + 15 + width_at rest i) (j + 15 + width_at rest i) 8 (omega arith),
      number_back l rest (i + 23 + width_at rest i) (j + 23 + width_at rest i) 8 (omega arith),
    )

-- The statements of `specs/StreamLaws.antt`. Assumes nothing.
use Prim.Native.Nat.{ℕ, zero, suc, ◌+◌, ◌-◌, ◌*◌, ◌≤◌, ◌<◌}
use mathlib.Core.Path.{◌≡◌, refl, sym, ap, ◌∙◌}
use mathlib.Core.Logic.{inl, inr}
use mathlib.Core.Bool.{Bool, true, false, true≢false}
use mathlib.Core.List.{List, [], ◌++◌, append_assoc, append-nil}
use native.Mathlib.Omega.{arith}
use borrow.Author.Tests.{le-leb, lt-leb}
use lib.Dec.{leb}
use lib.ListN.{length, take, drop, length-append, take-append-drop}
use lib.Seq.{length-take-le}
use Rattle.records.specs.declared.record.Next.{Next}
use Rattle.records.specs.declared.record.Next.TheVariants.{Whole, Unmarked, Cut, End}
use Rattle.records.specs.declared.record.Record.{Record}
use Rattle.records.specs.Record.{next_at}
use Rattle.records.specs.Lines.{r_line}
use Rattle.stream.specs.Response.{response_to}
use Rattle.stream.specs.Stream.{lines_in, lines_from}
use Rattle.stream.specs.Inside.Calls.{Answered, answered_in, answered, lines_after, end_lines, longest}
use Rattle.stream.specs.StreamLaws.{Unbounded, PartsJoined, NextPart, Moves}
use Rattle.stream.proofs.Nexts.{Told, told, whole_told, at_end, Through, answered_through, answered_unmarked, answered_whole, unmarked_front, whole_front, next_back}

-- ---- the lines of a stream, by what it has next
lines_same : (n m : ℕ) (input : List ℕ) (at index : ℕ) → length input - at ≤ n → length input - at ≤ m → lines_in n input at index ≡ lines_in m input at index
unfolding lines_in
lines_same zero zero input at index p q = refl
lines_same zero (suc m) input at index p q = let e = at_end input at (omega arith) in rw (e, lines_in)
lines_same (suc n) zero input at index p q = let e = at_end input at (omega arith) in rw (e, lines_in)
lines_same (suc n) (suc m) input at index p q = go (next_at input at) refl (λ size h. lines_same n m input (at + size) (index + 1) (omega arith) (omega arith))
  where
    go : (x : Next) → next_at input at ≡ x → ((size : ℕ) → 0 < size → lines_in n input (at + size) (index + 1) ≡ lines_in m input (at + size) (index + 1)) → lines_in (suc n) input at index ≡ lines_in (suc m) input at index
    go End e later = rw (e, lines_in)
    go Cut e later = rw (e, lines_in)
    go Unmarked e later = rw (e, lines_in)
    go (Whole r size) e later = let w = whole_told input at e in rw (e, lines_in) (ap (λ (l : List ℕ). response_to index r ++ l) (later size (omega (arith, w.least))))

pub lines_end : (input : List ℕ) (at index : ℕ) → next_at input at ≡ End → lines_from input at index ≡ []
unfolding lines_in Told
lines_end input at index e = let n : length input - at ≡ 0 = (let w = told input at e in omega arith) in rw (n, lines_in)

pub lines_cut : (input : List ℕ) (at index : ℕ) → next_at input at ≡ Cut → lines_from input at index ≡ r_line index 1
unfolding lines_in Told
lines_cut input at index e = go (length input - at) (let w = told input at e in omega (arith, w.0))
  where
    go : (n : ℕ) → 0 < n → lines_in n input at index ≡ r_line index 1
    go zero h = absurd (omega arith)
    go (suc n) h = rw (e, lines_in)

lines_unmarked : (input : List ℕ) (at index : ℕ) → next_at input at ≡ Unmarked → lines_from input at index ≡ r_line index 2
unfolding lines_in Told
lines_unmarked input at index e = go (length input - at) (let w = told input at e in omega (arith, w.0))
  where
    go : (n : ℕ) → 0 < n → lines_in n input at index ≡ r_line index 2
    go zero h = absurd (omega arith)
    go (suc n) h = rw (e, lines_in)

pub lines_whole : (input : List ℕ) (at index : ℕ) (r : Record) (size : ℕ) → next_at input at ≡ Whole r size → lines_from input at index ≡ response_to index r ++ lines_from input (at + size) (index + 1)
unfolding lines_in
lines_whole input at index r size e = let w = whole_told input at e in go (length input - at) (omega (arith, w.least, w.fits)) (omega arith) (omega (arith, w.least))
  where
    go : (n : ℕ) → 0 < n → length input - at ≤ n → 0 < size → lines_in n input at index ≡ response_to index r ++ lines_from input (at + size) (index + 1)
    go zero h p s = absurd (omega arith)
    go (suc n) h p s = rw (e, lines_in) (ap (λ (l : List ℕ). response_to index r ++ l) (lines_same n (length input - (at + size)) input (at + size) (index + 1) (omega arith) (omega arith)))

pub unbounded : Unbounded
unbounded input at index = go (next_at input at) refl
  where
    go : (x : Next) → next_at input at ≡ x
        → lines_from input at index ≡ elim (next_at input at) [ End ↦ [] | Cut ↦ r_line index 1 | Unmarked ↦ r_line index 2 | Whole r size ↦ response_to index r ++ lines_from input (at + size) (index + 1) ]
    go End e = rw e (lines_end input at index e)
    go Cut e = rw e (lines_cut input at index e)
    go Unmarked e = rw e (lines_unmarked input at index e)
    go (Whole r size) e = rw e (lines_whole input at index r size e)

-- ---- how far a call comes
record MovedIn (input : List ℕ) (at index : ℕ) (a : Answered) : Type 0 where
  fewest : at + 33 * a.index ≤ a.at + 33 * index
  most : a.at + 35 * index ≤ at + 35 * a.index
  within : at ≤ length input → a.at ≤ length input

stays : (input : List ℕ) (at index : ℕ) (text : List ℕ) (refused : Bool) → MovedIn input at index (record { text = text; at = at; index = index; refused = refused })
stays input at index text refused = record { fewest = omega arith; most = omega arith; within = λ h. h }

moved_in : (left : ℕ) (input : List ℕ) (room at index : ℕ) (text : List ℕ) → MovedIn input at index (answered_in left input room at index text)
unfolding answered_in
moved_in zero input room at index text = stays input at index text false
moved_in (suc left) input room at index text = go (leb (length text + longest) room) refl (λ r size. moved_in left input room (at + size) (index + 1) (text ++ response_to index r))
  where
    Later : Type 0
    Later = (r : Record) (size : ℕ) → MovedIn input (at + size) (index + 1) (answered_in left input room (at + size) (index + 1) (text ++ response_to index r))

    more : leb (length text + longest) room ≡ true → (x : Next) → next_at input at ≡ x → Later → MovedIn input at index (answered_in (suc left) input room at index text)
    more h End e later = rw (h, e, answered_in) (stays input at index text false)
    more h Cut e later = rw (h, e, answered_in) (stays input at index text false)
    more h Unmarked e later = rw (h, e, answered_in) (stays input at index (text ++ r_line index 2) true)
    more h (Whole r size) e later =
        let w = whole_told input at e in
        let m = later r size in
        rw (h, e, answered_in) (record { fewest = omega (arith, m.fewest, w.least); most = omega (arith, m.most, w.most); within = λ _. m.within w.fits })

    go : (t : Bool) → leb (length text + longest) room ≡ t → Later → MovedIn input at index (answered_in (suc left) input room at index text)
    go false h later = rw (h, answered_in) (stays input at index text false)
    go true h later = more h (next_at input at) refl later

through_in : (left : ℕ) (input : List ℕ) (room at index : ℕ) (text : List ℕ) → length input - at ≤ left
    → let a = answered_in left input room at index text in leb (length a.text + longest) room ≡ true → a.refused ≡ false → Through input a.at
unfolding answered_in
through_in zero input room at index text enough = λ _ _. inl (at_end input at (omega arith))
through_in (suc left) input room at index text enough = go (leb (length text + longest) room) refl (λ r size h. through_in left input room (at + size) (index + 1) (text ++ response_to index r) (omega arith))
  where
    Goal : Answered → Type 0
    Goal a = leb (length a.text + longest) room ≡ true → a.refused ≡ false → Through input a.at

    Later : Type 0
    Later = (r : Record) (size : ℕ) → 0 < size → Goal (answered_in left input room (at + size) (index + 1) (text ++ response_to index r))

    more : leb (length text + longest) room ≡ true → (x : Next) → next_at input at ≡ x → Later → Goal (answered_in (suc left) input room at index text)
    more h End e later = rw (h, e, answered_in) (λ _ _. inl e)
    more h Cut e later = rw (h, e, answered_in) (λ _ _. inr e)
    more h Unmarked e later = rw (h, e, answered_in) (λ _ f. absurd (true≢false f))
    more h (Whole r size) e later = let w = whole_told input at e in rw (h, e, answered_in) (later r size (omega (arith, w.least)))

    go : (t : Bool) → leb (length text + longest) room ≡ t → Later → Goal (answered_in (suc left) input room at index text)
    go false h later = rw (h, answered_in) (λ f _. absurd (true≢false (sym f ∙ h)))
    go true h later = more h (next_at input at) refl later

further : (input : List ℕ) (room at index : ℕ) → longest ≤ room → let a = answered input room at index in room < length a.text + longest → a.refused ≡ false → at < a.at
further input room at index roomy full accepted = go (next_at input at) refl
  where
    h : leb (0 + longest) room ≡ true
    h = le-leb _ _ roomy

    go : (x : Next) → next_at input at ≡ x → at < (answered input room at index).at
    go End e = let w = ap (λ (a : Answered). length a.text) (answered_through (length input - at) input room at index [] h (inl e)) in absurd (omega arith)
    go Cut e = let w = ap (λ (a : Answered). length a.text) (answered_through (length input - at) input room at index [] h (inr e)) in absurd (omega arith)
    go Unmarked e = let w = answered_unmarked (length input - at) input room at index [] h (omega arith) e in absurd (true≢false (sym (ap (λ (a : Answered). a.refused) w) ∙ accepted))
    go (Whole r size) e =
        let f = whole_told input at e in
        let w = answered_whole (length input - at) input room at index [] h r size (omega arith) e in
        let m = moved_in (length input - at - 1) input room (at + size) (index + 1) (response_to index r) in
        rw w (omega (arith, f.least, m.fewest, m.most))

-- what is left of a stream that no call can answer
pub through_lines : (input : List ℕ) (at index : ℕ) → Through input at → lines_from input at index ≡ end_lines input at index
unfolding Told
through_lines input at index (inl e) = lines_end input at index e ∙ rw (le-leb (length input) at (told input at e))
through_lines input at index (inr e) = lines_cut input at index e ∙ rw (lt-leb (length input) at (told input at e).0)

pub through_short : (input : List ℕ) (at : ℕ) → Through input at → length input - at < 35
unfolding Told
through_short input at (inl e) = let w = told input at e in omega arith
through_short input at (inr e) = let w = told input at e in omega (arith, w.1)

pub through : (input : List ℕ) (room at index : ℕ) → let a = answered input room at index in length a.text + longest ≤ room → a.refused ≡ false → Through input a.at
through input room at index roomy = through_in (length input - at) input room at index [] (omega arith) (le-leb _ _ roomy)

pub moves : Moves
moves input room at index r e =
    let m = moved_in (length input - at) input room at index [] in
    rw e (record {
      fewest = m.fewest;
      most = m.most;
      within = m.within;
      further = further input room at index;
      through = λ h f. through_short input _ (through input room at index h f);
      left = λ h f. through_lines input _ _ (through input room at index h f);
    })

-- ---- a call on a part of a stream
module _ (part rest : List ℕ) (room : ℕ) where
  abbrev all : Answered → List ℕ
  all a = a.text ++ lines_after (part ++ rest) a

  joined_in : (left at index : ℕ) (text : List ℕ) → all (answered_in left part room at index text) ≡ text ++ lines_from (part ++ rest) at index
  unfolding answered_in
  joined_in zero at index text = refl
  joined_in (suc left) at index text = go (leb (length text + longest) room) refl (λ r size. joined_in left (at + size) (index + 1) (text ++ response_to index r))
    where
      Later : Type 0
      Later = (r : Record) (size : ℕ) → all (answered_in left part room (at + size) (index + 1) (text ++ response_to index r)) ≡ (text ++ response_to index r) ++ lines_from (part ++ rest) (at + size) (index + 1)

      more : leb (length text + longest) room ≡ true → (x : Next) → next_at part at ≡ x → Later → all (answered_in (suc left) part room at index text) ≡ text ++ lines_from (part ++ rest) at index
      more h End e later = rw (h, e, answered_in)
      more h Cut e later = rw (h, e, answered_in)
      more h Unmarked e later = rw (h, e, answered_in) (append-nil (text ++ r_line index 2) ∙ ap (λ (l : List ℕ). text ++ l) (sym (lines_unmarked (part ++ rest) at index (unmarked_front part rest at e))))
      more h (Whole r size) e later =
          rw (h, e, answered_in) (later r size ∙ append_assoc text (response_to index r) (lines_from (part ++ rest) (at + size) (index + 1)) ∙ ap (λ (l : List ℕ). text ++ l) (sym (lines_whole (part ++ rest) at index r size (whole_front part rest at e))))

      go : (t : Bool) → leb (length text + longest) room ≡ t → Later → all (answered_in (suc left) part room at index text) ≡ text ++ lines_from (part ++ rest) at index
      go false h later = rw (h, answered_in)
      go true h later = more h (next_at part at) refl later

pub parts_joined : PartsJoined
parts_joined part rest room at index = joined_in part rest room (length part - at) at index []

lines_behind : (left : ℕ) (l rest : List ℕ) (i j index : ℕ) → j ≡ length l + i → lines_in left (l ++ rest) j index ≡ lines_in left rest i index
unfolding lines_in
lines_behind zero l rest i j index h = refl
lines_behind (suc left) l rest i j index h = go (next_at rest i) refl (λ size. lines_behind left l rest (i + size) (j + size) (index + 1) (omega arith))
  where
    go : (x : Next) → next_at rest i ≡ x → ((size : ℕ) → lines_in left (l ++ rest) (j + size) (index + 1) ≡ lines_in left rest (i + size) (index + 1)) → lines_in (suc left) (l ++ rest) j index ≡ lines_in (suc left) rest i index
    go End e later = let f = next_back l rest i j h ∙ e in rw (e, f, lines_in)
    go Cut e later = let f = next_back l rest i j h ∙ e in rw (e, f, lines_in)
    go Unmarked e later = let f = next_back l rest i j h ∙ e in rw (e, f, lines_in)
    go (Whole r size) e later = let f = next_back l rest i j h ∙ e in rw (e, f, lines_in) (ap (λ (t : List ℕ). response_to index r ++ t) (later size))

-- the lines behind other bytes are those of the bytes alone
pub lines_back : (l rest : List ℕ) (at index : ℕ) → at ≡ length l → lines_from (l ++ rest) at index ≡ lines_from rest 0 index
lines_back l rest at index h =
    let n = length-append l rest in
    let left : length (l ++ rest) - at ≡ length rest - 0 = omega arith in
    rw left (lines_behind (length rest - 0) l rest 0 at index (omega arith))

pub next_part : NextPart
next_part part rest at index h =
    let split : take at part ++ (drop at part ++ rest) ≡ part ++ rest = sym (append_assoc (take at part) (drop at part) rest) ∙ ap (λ (l : List ℕ). l ++ rest) (take-append-drop at part) in
    ap (λ (l : List ℕ). lines_from l at index) (sym split) ∙ lines_back (take at part) (drop at part ++ rest) at index (sym (length-take-le at part h))

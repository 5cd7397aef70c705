-- The statement of `specs/Readings.antt`. Assumes nothing.
use Prim.Native.Nat.{ℕ, zero, suc, ◌+◌, ◌-◌, ◌≤◌, ◌<◌}
use mathlib.Core.Path.{◌≡◌, refl, sym, ap, ◌∙◌}
use mathlib.Core.Logic.{◌⊎◌, inl, inr, ⊎_elim}
use mathlib.Core.Bool.{Bool, true, false, cond, true≢false}
use mathlib.Core.List.{List, [], ◌∷◌, ◌++◌, append_assoc, append-nil}
use native.Mathlib.Omega.{arith}
use borrow.Author.Tests.{leb-true, leb-false}
use lib.Dec.{leb}
use lib.ListN.{length, take, drop, take-append-drop}
use lib.Seq.{length-take-le}
use Rattle.records.specs.Record.{next_at}
use Rattle.stream.specs.Stream.{lines_from}
use Rattle.stream.specs.Inside.Calls.{Answered, answered, progress, lines_after, longest}
use Rattle.stream.specs.StreamLaws.{Moved}
use Rattle.stream.specs.Readings.{calls_in, answers_to, Held, nothing, answers_with, holds, printed, joined, ReadInParts}
use Rattle.stream.proofs.Nexts.{Through, at_end, next_back}
use Rattle.stream.proofs.StreamLaws as laws

-- ---- how the calls go on
abbrev pub further : List ℕ → ℕ → Answered → Answered
further bytes room a =
    let b = answered bytes room a.at a.index in
    record { text = a.text ++ b.text; at = b.at; index = b.index; refused = b.refused }

-- the same but for its flag
abbrev flagged : Answered → Bool → Answered
flagged a t = record { text = a.text; at = a.at; index = a.index; refused = t }

-- how many calls a place needs at most: one, and another for each byte that is left
abbrev pub Enough : List ℕ → ℕ → ℕ → Type 0
Enough bytes at most = length bytes - at < most

module _ (most : ℕ) (bytes : List ℕ) (room : ℕ) (a : Answered) where
  abbrev b : Answered
  b = answered bytes room a.at a.index

  pub calls_refused : b.refused ≡ true → calls_in (suc most) bytes room a ≡ further bytes room a
  unfolding calls_in
  calls_refused f = rw (f, calls_in) (ap (flagged (further bytes room a)) f)

  pub calls_through : b.refused ≡ false → leb (length b.text + longest) room ≡ true → calls_in (suc most) bytes room a ≡ further bytes room a
  unfolding calls_in
  calls_through f h = rw (f, h, calls_in) (ap (flagged (further bytes room a)) f)

  pub calls_on : b.refused ≡ false → leb (length b.text + longest) room ≡ false → calls_in (suc most) bytes room a ≡ calls_in most bytes room (further bytes room a)
  unfolding calls_in
  calls_on f h = rw (f, h, calls_in) (ap (λ (t : Bool). calls_in most bytes room (flagged (further bytes room a) t)) f)

-- ---- the bytes that are there, and those that come later
module _ (bytes rest : List ℕ) (room : ℕ) where
  abbrev all : Answered → List ℕ
  all a = a.text ++ lines_after (bytes ++ rest) a

  all_further : (a : Answered) → a.refused ≡ false → all (further bytes room a) ≡ all a
  all_further a f =
      let b = answered bytes room a.at a.index in
      append_assoc a.text b.text (lines_after (bytes ++ rest) b) ∙ ap (λ (l : List ℕ). a.text ++ l) (laws.parts_joined bytes rest room a.at a.index) ∙ rw f

  all_same : (most : ℕ) (a : Answered) → a.refused ≡ false → all (calls_in most bytes room a) ≡ all a
  unfolding calls_in
  all_same zero a f = refl
  all_same (suc most) a f = go b.refused refl (all_same most (further bytes room a))
    where
      b : Answered
      b = answered bytes room a.at a.index

      Later : Type 0
      Later = b.refused ≡ false → all (calls_in most bytes room (further bytes room a)) ≡ all (further bytes room a)

      more : b.refused ≡ false → (t : Bool) → leb (length b.text + longest) room ≡ t → Later → all (calls_in (suc most) bytes room a) ≡ all a
      more g true h later = ap all (calls_through most bytes room a g h) ∙ all_further a f
      more g false h later = ap all (calls_on most bytes room a g h) ∙ later g ∙ all_further a f

      go : (t : Bool) → b.refused ≡ t → Later → all (calls_in (suc most) bytes room a) ≡ all a
      go true g later = ap all (calls_refused most bytes room a g) ∙ all_further a f
      go false g later = more g (leb (length b.text + longest) room) refl later

-- ---- where the calls end: the stream is refused, or less than a record is left
pub record Ended (bytes : List ℕ) (a : Answered) : Type 0 where
  pub within : a.at ≤ length bytes
  pub over : (a.refused ≡ true) ⊎ Through bytes a.at

module _ (bytes : List ℕ) (room : ℕ) (roomy : longest ≤ room) where
  pub ended : (most : ℕ) (a : Answered) → a.at ≤ length bytes → Enough bytes a.at most → Ended bytes (calls_in most bytes room a)
  unfolding calls_in
  ended zero a w enough = absurd (omega arith)
  ended (suc most) a w enough = go b.refused refl (ended most (further bytes room a))
    where
      b : Answered
      b = answered bytes room a.at a.index

      m : Moved bytes room a.at a.index (progress b)
      m = laws.moves bytes room a.at a.index (progress b) refl

      Later : Type 0
      Later = b.at ≤ length bytes → Enough bytes b.at most → Ended bytes (calls_in most bytes room (further bytes room a))

      more : b.refused ≡ false → (t : Bool) → leb (length b.text + longest) room ≡ t → Later → Ended bytes (calls_in (suc most) bytes room a)
      more g true h later = rw (calls_through most bytes room a g h) (record { within = m.within w; over = inr (laws.through bytes room a.at a.index (leb-true _ _ h) g) })
      more g false h later =
          let in_bytes = m.within w in
          let on = m.further roomy (leb-false _ _ h) g in
          rw (calls_on most bytes room a g h) (later in_bytes (omega arith))

      go : (t : Bool) → b.refused ≡ t → Later → Ended bytes (calls_in (suc most) bytes room a)
      go true g later = rw (calls_refused most bytes room a g) (record { within = m.within w; over = inl g })
      go false g later = more g (leb (length b.text + longest) room) refl later

  pub answers_ended : (index : ℕ) → Ended bytes (answers_to bytes room index)
  answers_ended index = ended (suc (length bytes)) (record { text = []; at = 0; index = index; refused = false }) (omega arith) (omega arith)

-- what less than a record is left of begins what is held
through_held : (bytes : List ℕ) (at : ℕ) → at ≤ length bytes → Through bytes at → Through (drop at bytes) 0
through_held bytes at h t =
    let e : next_at bytes at ≡ next_at (drop at bytes) 0 =
    ap (λ (l : List ℕ). next_at l at) (sym (take-append-drop at bytes)) ∙ next_back (take at bytes) (drop at bytes) 0 at (let n = length-take-le at bytes h in omega arith) in
    ⊎_elim (λ q. inl (sym e ∙ q)) (λ q. inr (sym e ∙ q)) t

pub read_from : (readings : List (List ℕ)) (room : ℕ) → longest ≤ room → (h : Held) → Through h.bytes 0 → printed readings room h ≡ lines_from (h.bytes ++ joined readings) 0 h.index
unfolding printed joined
read_from [] room roomy h t = sym (laws.through_lines h.bytes 0 h.index t) ∙ ap (λ (l : List ℕ). lines_from l 0 h.index) (sym (append-nil h.bytes))
read_from (reading ∷ readings) room roomy h t = go a.refused refl (λ w. read_from readings room roomy (holds room h reading) (through_held bytes a.at done.within w))
  where
    bytes : List ℕ
    bytes = h.bytes ++ reading

    a : Answered
    a = answers_with room h reading

    done : Ended bytes a
    done = answers_ended bytes room roomy h.index

    same : a.text ++ lines_after (bytes ++ joined readings) a ≡ lines_from (h.bytes ++ (reading ++ joined readings)) 0 h.index
    same = all_same bytes (joined readings) room (suc (length bytes)) (record { text = []; at = 0; index = h.index; refused = false }) refl ∙ ap (λ (l : List ℕ). lines_from l 0 h.index) (append_assoc h.bytes reading (joined readings))

    Later : Type 0
    Later = Through bytes a.at → printed readings room (holds room h reading) ≡ lines_from (drop a.at bytes ++ joined readings) 0 a.index

    go : (f : Bool) → a.refused ≡ f → Later → a.text ++ cond a.refused [] (printed readings room (holds room h reading)) ≡ lines_from (h.bytes ++ (reading ++ joined readings)) 0 h.index
    go true f later = rw f (rw f at same)
    go false f later =
        let w = ⊎_elim (λ y. absurd (true≢false (sym y ∙ f))) (λ y. y) done.over in
        rw (f, later w, ← laws.next_part bytes (joined readings) a.at a.index done.within) (rw f at same)

pub read_in_parts : ReadInParts
unfolding joined
read_in_parts readings room roomy = read_from readings room roomy nothing (inl (at_end [] 0 (omega arith)))

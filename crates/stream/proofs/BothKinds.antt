-- The statement of `specs/BothKinds.antt`. Assumes nothing.
use Prim.Native.Nat.{ℕ, ◌+◌}
use mathlib.Core.Path.{◌≡◌, refl, sym, ap, ◌∙◌}
use mathlib.Core.Logic.{◌⊎◌, inl, inr}
use mathlib.Core.Bool.{Bool, true, false, cond}
use mathlib.Core.List.{List, [], ◌∷◌, ◌++◌, append_assoc}
use native.Mathlib.Omega.{arith}
use lib.ListN.{length}
use Rattle.records.specs.declared.record.Record.{Record}
use Rattle.records.specs.Record.{number_at, width_at, record_at}
use Rattle.stream.specs.Response.{response_to}
use Rattle.stream.specs.Stream.{lines_from}
use Rattle.stream.specs.BothKinds.{Old, widened, Choices, AllOld, chosen, unchanged, SameLines}
use Rattle.stream.proofs.Nexts.{at_whole, whole_front}
use Rattle.stream.proofs.StreamLaws.{lines_whole, lines_back}

-- the fields of a record of either kind
record Reads (bytes : List ℕ) (r : Record) (width : ℕ) : Type 0 where
  size : length bytes ≡ 31 + width
  mark : width_at bytes 0 ≡ width
  fields : record_at bytes 0 width ≡ r

old_reads : (old : List ℕ) → Old old → Reads old (record_at old 0 2) 2
old_reads old o = record { size = o.size; mark = rw o.mark; fields = refl }

-- the nine bytes up to the allowance's end are all that differs
new_reads : (old : List ℕ) → length old ≡ 33 → Reads (widened old) (record_at old 0 2) 4
unfolding number_at
new_reads (a ∷ b ∷ op ∷ m ∷ m' ∷ n ∷ n' ∷ l ∷ l' ∷ rest) s = record { size = omega arith; mark = refl; fields = refl }
new_reads [] s = absurd (omega arith)
new_reads (a ∷ []) s = absurd (omega arith)
new_reads (a ∷ b ∷ []) s = absurd (omega arith)
new_reads (a ∷ b ∷ op ∷ []) s = absurd (omega arith)
new_reads (a ∷ b ∷ op ∷ m ∷ []) s = absurd (omega arith)
new_reads (a ∷ b ∷ op ∷ m ∷ m' ∷ []) s = absurd (omega arith)
new_reads (a ∷ b ∷ op ∷ m ∷ m' ∷ n ∷ []) s = absurd (omega arith)
new_reads (a ∷ b ∷ op ∷ m ∷ m' ∷ n ∷ n' ∷ []) s = absurd (omega arith)
new_reads (a ∷ b ∷ op ∷ m ∷ m' ∷ n ∷ n' ∷ l ∷ []) s = absurd (omega arith)

-- the lines of a record with others behind it
lines_of : (bytes more : List ℕ) (r : Record) (width index : ℕ) → (width ≡ 2) ⊎ (width ≡ 4) → Reads bytes r width → lines_from (bytes ++ more) 0 index ≡ response_to index r ++ lines_from more 0 (index + 1)
lines_of bytes more r width index known w =
    let e = whole_front bytes more 0 (at_whole bytes 0 width known w.mark (omega (arith, w.size))) in
    lines_whole (bytes ++ more) 0 index (record_at bytes 0 width) (31 + width) e
    ∙ rw w.fields (ap (λ (l : List ℕ). response_to index r ++ l) (lines_back bytes more (0 + (31 + width)) (index + 1) (omega (arith, w.size))))

-- an old record has the same lines whether it is written as it is or as the new kind
either : (new : Bool) (old more : List ℕ) (index : ℕ) → Old old → lines_from (cond new (widened old) old ++ more) 0 index ≡ response_to index (record_at old 0 2) ++ lines_from more 0 (index + 1)
either true old more index o = lines_of (widened old) more (record_at old 0 2) 4 index (inr refl) (new_reads old o.size)
either false old more index o = lines_of old more (record_at old 0 2) 2 index (inl refl) (old_reads old o)

same_from : (records : Choices) (rest : List ℕ) (index : ℕ) → AllOld records → lines_from (chosen records ++ rest) 0 index ≡ lines_from (unchanged records ++ rest) 0 index
unfolding chosen unchanged AllOld
same_from [] rest index all = refl
same_from (r ∷ rs) rest index all =
    ap (λ (l : List ℕ). lines_from l 0 index) (append_assoc (cond r.0 (widened r.1) r.1) (chosen rs) rest)
    ∙ either r.0 r.1 (chosen rs ++ rest) index all.0
    ∙ ap (λ (l : List ℕ). response_to index (record_at r.1 0 2) ++ l) (same_from rs rest (index + 1) all.1)
    ∙ sym (either false r.1 (unchanged rs ++ rest) index all.0)
    ∙ ap (λ (l : List ℕ). lines_from l 0 index) (sym (append_assoc r.1 (unchanged rs) rest))

pub same_lines : SameLines
same_lines records rest all = same_from records rest 0 all

-- The invariant of `answer_some`, with one law for each thing that a turn can meet. Assumes nothing.
use Prim.Native.Nat.{ℕ, ◌+◌, ◌-◌, ◌≤◌, ◌<◌}
use mathlib.Core.Path.{◌≡◌, refl, sym, ap, ◌∙◌}
use mathlib.Core.Bool.{Bool, true, false}
use mathlib.Core.List.{List, [], ◌++◌}
use native.Mathlib.Omega.{arith}
use borrow.Author.Tests.{le-leb, lt-leb}
use lib.Dec.{leb}
use lib.ListN.{length}
use Rattle.records.specs.declared.record.Next.TheVariants.{Whole, Unmarked}
use Rattle.records.specs.declared.record.Record.{Record}
use Rattle.records.specs.Record.{next_at}
use Rattle.records.specs.Lines.{r_line}
use Rattle.records.specs.Text.{Put}
use Rattle.records.proofs.Laws.{put_nothing, put_then, put_length}
use Rattle.stream.specs.declared.stream.Progress.{Progress}
use Rattle.stream.specs.Response.{response_to}
use Rattle.stream.specs.Inside.Calls.{Answered, answered_in, answered, progress, longest}
use Rattle.stream.proofs.Laws.{put_same}
use Rattle.stream.proofs.Nexts.{whole_told, Through, answered_full, answered_through, answered_unmarked, answered_whole}

-- `text` is put, and what is left to do gives what the whole call gives.
pub record Reached (input : List ℕ) (from first : ℕ) (out₀ out : List ℕ) (at index used : ℕ) : Type 0 where
  pub text : List ℕ
  pub left : ℕ
  pub put : Put out₀ out 0 used text
  pub enough : length input - at ≤ left
  pub rest : answered_in left input (length out₀) at index text ≡ answered input (length out₀) from first

-- what a call has done
pub record Done (input : List ℕ) (from first : ℕ) (out₀ out : List ℕ) (r : Progress) : Type 0 where
  pub put : Put out₀ out 0 r.used (answered input (length out₀) from first).text
  pub is : r ≡ progress (answered input (length out₀) from first)

pub start : (input : List ℕ) (from first : ℕ) (out : List ℕ) → Reached input from first out out from first 0
start input from first out = record { text = []; left = length input - from; put = put_nothing out 0 (omega arith); enough = omega arith; rest = refl }

module _ {input : List ℕ} {from first : ℕ} {out₀ out : List ℕ} {at index used : ℕ} (s : Reached input from first out₀ out at index used) where
  -- the result of a call whose text and progress are known
  done : {after text : List ℕ} {n end : ℕ} {refused : Bool} → Put out₀ after 0 end text → answered_in s.left input (length out₀) at index s.text ≡ record { text = text; at = n; index = index; refused = refused } → Done input from first out₀ after (record { at = n; index = index; used = end; refused = refused })
  done {after} {text} {n} {end} {refused} p e =
      let same : answered input (length out₀) from first ≡ record { text = text; at = n; index = index; refused = refused } = sym s.rest ∙ e in
      let u : end ≡ length text = omega (arith, p.ends) in
      record {
        put = put_same (sym (ap (λ (a : Answered). a.text) same)) p;
        is = rw (same, u);
      }

  pub full : length out - used < longest → Done input from first out₀ out (record { at = at; index = index; used = used; refused = false })
  full h = done s.put (answered_full _ _ _ _ _ _ (lt-leb (length s.text + longest) (length out₀) (omega (arith, s.put.ends, s.put.fits, put_length s.put))))

  module _ (h : longest ≤ length out - used) where
    roomy : leb (length s.text + longest) (length out₀) ≡ true
    roomy = le-leb (length s.text + longest) (length out₀) (omega (arith, s.put.ends, s.put.fits, put_length s.put))

    pub through : Through input at → Done input from first out₀ out (record { at = at; index = index; used = used; refused = false })
    through e = done s.put (answered_through _ _ _ _ _ _ roomy e)

    pub unmarked : {after : List ℕ} {end : ℕ} → next_at input at ≡ Unmarked → Put out after used end (r_line index 2) → Done input from first out₀ after (record { at = at; index = index; used = end; refused = true })
    unmarked e p = done (put_then s.put p) (answered_unmarked _ _ _ _ _ _ roomy s.enough e)

    pub answered_one : (r : Record) (size : ℕ) {after : List ℕ} {end : ℕ} → next_at input at ≡ Whole r size → Put out after used end (response_to index r) → Reached input from first out₀ after (at + size) (index + 1) end
    answered_one r size e p =
        let w = whole_told input at e in
        record {
          text = s.text ++ response_to index r;
          left = s.left - 1;
          put = put_then s.put p;
          enough = omega (arith, s.enough, w.least, w.fits);
          rest = sym (answered_whole _ _ _ _ _ _ roomy r size s.enough e) ∙ s.rest;
        }

-- Laws of the texts that a record is answered with. Assumes nothing.
use Prim.Native.Nat.{ℕ, ◌+◌, ◌-◌}
use mathlib.Core.Path.{◌≡◌, sym, ap, subst, ◌∙◌}
use mathlib.Core.Bool.{true}
use mathlib.Core.List.{List}
use borrow.Author.Tests.{ne_eqb}
use lib.Dec.{eqb}
use lib.Ieee.{Float}
use lib.ListN.{replicate}
use Rattle.arith.specs.Double.{#0}
use Rattle.records.specs.Text.{Put}
-- for the programs above
pub use Rattle.records.proofs.Laws.{put_length}
use Rattle.records.specs.declared.record.Record.{Record}
use Rattle.records.specs.Lines.{r_line}
use Rattle.segv.specs.Row.{Slices, slices, Numbered, answer}
use Rattle.requests.specs.declared.checking.Kind.{Kind}
use Rattle.requests.specs.declared.checking.Mode.{Mode}
use Rattle.rows.specs.Rows.{row_of, blank_slices, dlmf_of}
use Rattle.std.specs.Prelude.{Result, Ok, Err}
use Rattle.requests.specs.declared.refusals.Refusal.{Refusal}
use Rattle.requests.specs.Answers.{code, number_of}
use Rattle.requests.proofs.Laws.{Accepted, some_number}
use Rattle.rows.proofs.Laws.{row_mode, dlmf_mode}
use Rattle.requests.specs.declared.operations.Operation.{Operation}
use Rattle.requests.specs.Operations.{operation_of}
use Rattle.stream.specs.Response.{row_lines, d_lines, row_text, dlmf_text, text_of, response_to}

pub put_same : {a b : List ℕ} {f t : ℕ} {x y : List ℕ} → x ≡ y → Put a b f t x → Put a b f t y
put_same {a} {b} {f} {t} e p = subst (Put a b f t) e p

-- ---- the numbers of answers
pub code_ok : {r : Result Unit Refusal} {u : Unit} → r ≡ Ok u → code r ≡ 0
code_ok e = ap (code {A = Unit}) e

pub code_err : {r : Result Unit Refusal} {refusal : Refusal} → r ≡ Err refusal → code r ≡ number_of refusal
code_err e = ap (code {A = Unit}) e

pub code_some : {r : Result Unit Refusal} {refusal : Refusal} → r ≡ Err refusal → code r ≡ 0 → ⊥
code_some {r} {refusal} e z = some_number refusal (sym (code_err e) ∙ z)

-- ---- rows
module _ (index : ℕ) (kind : Kind) (x : Mode) (allowance : ℕ) (v : List Float) (s : List ℕ) (w u : List Float) (f : List ℕ)
    (hv : v ≡ replicate 200 #0) (hs : s ≡ replicate 200 0) (hw : w ≡ replicate 200 #0) (hu : u ≡ replicate 200 #0) (hf : f ≡ replicate 200 0)
    (k : ℕ) (after : Slices) (e : answer k after ≡ row_of kind x allowance (slices v s w u f)) where
  row_is : answer k after ≡ row_of kind x allowance blank_slices
  unfolding blank_slices
  row_is = e ∙ rw (hv, hs, hw, hu, hf)

  number_is : k ≡ (row_of kind x allowance blank_slices).number
  number_is = ap (λ (a : Numbered Slices). a.number) row_is

  after_is : after ≡ (row_of kind x allowance blank_slices).after
  after_is = ap (λ (a : Numbered Slices). a.after) row_is

  pub row_accepted : k ≡ 0 → Accepted x
  row_accepted z = row_mode kind x allowance blank_slices (sym number_is ∙ z)

  pub row_filled : k ≡ 0 → row_lines index x.m after (x.n - x.m + 1) ≡ row_text index kind x allowance
  unfolding row_text
  row_filled z = rw (← number_is, z, after_is)

  pub row_refused : (k ≡ 0 → ⊥) → r_line index k ≡ row_text index kind x allowance
  unfolding row_text
  row_refused n = rw (← number_is, ne_eqb k 0 n)

-- ---- DLMF rows
module _ (index : ℕ) (kind : Kind) (x : Mode) (allowance : ℕ) (v : List Float) (hv : v ≡ replicate 200 #0) (k : ℕ) (after : List Float) (e : answer k after ≡ dlmf_of kind x allowance v) where
  dlmf_is : answer k after ≡ dlmf_of kind x allowance (replicate 200 #0)
  dlmf_is = e ∙ ap (dlmf_of kind x allowance) hv

  dlmf_number_is : k ≡ (dlmf_of kind x allowance (replicate 200 #0)).number
  dlmf_number_is = ap (λ (a : Numbered (List Float)). a.number) dlmf_is

  dlmf_after_is : after ≡ (dlmf_of kind x allowance (replicate 200 #0)).after
  dlmf_after_is = ap (λ (a : Numbered (List Float)). a.after) dlmf_is

  pub dlmf_row_accepted : k ≡ 0 → Accepted x
  dlmf_row_accepted z = dlmf_mode kind x allowance (replicate 200 #0) (sym dlmf_number_is ∙ z)

  pub dlmf_filled : k ≡ 0 → d_lines index x.m after (x.n - x.m + 1) ≡ dlmf_text index kind x allowance
  unfolding dlmf_text
  dlmf_filled z = rw (← dlmf_number_is, z, dlmf_after_is)

  pub dlmf_refused : (k ≡ 0 → ⊥) → r_line index k ≡ dlmf_text index kind x allowance
  unfolding dlmf_text
  dlmf_refused n = rw (← dlmf_number_is, ne_eqb k 0 n)

-- ---- by the operation
pub text_ok : (index : ℕ) (r : Record) (operation : Operation) → operation_of r.operation ≡ Ok operation → text_of operation index r ≡ response_to index r
unfolding response_to
text_ok index r operation e = rw (e, response_to)

pub text_err : (index : ℕ) (r : Record) (refusal : Refusal) → operation_of r.operation ≡ Err refusal → r_line index (number_of refusal) ≡ response_to index r
unfolding response_to
text_err index r refusal e = rw (e, response_to)

-- How the definitions of rows unfold, in the form in which the proofs of the code meet them. Assumes nothing.
use Prim.Native.Nat.{ℕ, ◌+◌, ◌-◌, ◌<◌}
use mathlib.Core.Path.{◌≡◌, refl, ◌∙◌}
use mathlib.Core.Bool.{Bool, true, false, cond}
use mathlib.Core.List.{List}
use borrow.Author.Tests.{eqb-true, lt-leb, ne_eqb}
use lib.Dec.{eqb}
use lib.Ieee.{Float, lt}
use lib.ListN.{length, replicate}
use Rattle.arith.specs.Double.{#0, #1e-10}
use Rattle.segv.specs.Families.{both_families}
use Rattle.segv.specs.Row.{Slices, slices, written_row, Numbered, answer, segv_row}
use Rattle.requests.specs.declared.checking.Mode.{Mode}
use Rattle.requests.specs.declared.checking.Kind.{Kind}
use Rattle.requests.specs.Refusals.{row_refusal, entries_of, cs_of}
use Rattle.requests.proofs.Laws.{Accepted, accepted}
use Rattle.rows.specs.Rows.{zero_at, row_in, row_of, too_short, blank_slices, lessened, dlmf_in, dlmf_of}

-- a first refusal k leaves an answer's number 0 only where k is 0
none_of : {A : Type 0} (k : ℕ) (a : Numbered A) (x : A) → (cond (eqb k 0) a (answer k x)).number ≡ 0 → k ≡ 0
none_of k a x h = go (eqb k 0) refl
  where
    go : (t : Bool) → eqb k 0 ≡ t → k ≡ 0
    go true e = eqb-true k 0 e
    go false e = rw e at h

-- so the mode of a row that is not refused is accepted, and that of a DLMF row
pub row_mode : (kind : Kind) (x : Mode) (allowance : ℕ) (l : Slices) → (row_of kind x allowance l).number ≡ 0 → Accepted x
unfolding row_of
row_mode kind x allowance l h = accepted x (none_of (row_refusal x) _ l h)

pub dlmf_mode : (kind : Kind) (x : Mode) (allowance : ℕ) (xs : List Float) → (dlmf_of kind x allowance xs).number ≡ 0 → Accepted x
unfolding dlmf_of
dlmf_mode kind x allowance xs h = accepted x (none_of (row_refusal x) _ xs h)

-- ---- the row of a mode that is not refused
module _ (kind : Kind) (x : Mode) (allowance : ℕ) (l : Slices) where
  pub zero_way : (y : Slices) → lt x.c #1e-10 ≡ true → y ≡ written_row (zero_at x.m) (x.n - x.m + 1) l → answer 0 y ≡ row_in kind x allowance l
  unfolding row_in
  zero_way y h e = rw (h, e)

  pub bisected_way : (a : Numbered Slices) (cs : Float) (k : ℕ) → lt x.c #1e-10 ≡ false → cs ≡ cs_of kind x → k ≡ entries_of x
      → a ≡ segv_row (both_families x.m x.n cs k allowance) (x.n - x.m + 1) l → a ≡ row_in kind x allowance l
  unfolding row_in
  bisected_way a cs k t hs hk e = rw (t, ← hs, ← hk) e

pub long_enough : (x : Mode) (l : Slices) → x.n - x.m < length l.values → x.n - x.m < length l.steps → x.n - x.m < length l.lowers → x.n - x.m < length l.uppers
    → x.n - x.m < length l.substituted → too_short x l ≡ false
unfolding too_short
long_enough x l a b c d e = rw (lt-leb _ _ a, lt-leb _ _ b, lt-leb _ _ c, lt-leb _ _ d, lt-leb _ _ e)

-- ---- DLMF's form
module _ (kind : Kind) (x : Mode) (allowance : ℕ) (xs : List Float) (h : 0 ≡ row_refusal x) (l : x.n - x.m < length xs) (v : List Float) (s : List ℕ) (w u : List Float) (f : List ℕ)
    (hv : v ≡ replicate 200 #0) (hs : s ≡ replicate 200 0) (hw : w ≡ replicate 200 #0) (hu : u ≡ replicate 200 #0) (hf : f ≡ replicate 200 0) (a : Numbered Slices)
    (ha : a ≡ row_in kind x allowance (slices v s w u f)) where
  in_blank : a ≡ row_in kind x allowance blank_slices
  unfolding blank_slices
  in_blank = ha ∙ rw (hv, hs, hw, hu, hf)

  pub dlmf_refused : (a.number ≡ 0 → ⊥) → answer a.number xs ≡ dlmf_of kind x allowance xs
  unfolding dlmf_of dlmf_in
  dlmf_refused n = rw (← h, lt-leb (length xs) (x.n - x.m) l, ← in_blank, ne_eqb a.number 0 n)

  pub dlmf_done : (ys : List Float) (γ² : Float) → a.number ≡ 0 → γ² ≡ cs_of kind x → ys ≡ lessened a.after.values γ² (x.n - x.m + 1) xs → answer 0 ys ≡ dlmf_of kind x allowance xs
  unfolding dlmf_of dlmf_in
  dlmf_done ys γ² n g e = rw (← h, lt-leb (length xs) (x.n - x.m) l, ← in_blank, n, ← g, e)

-- The users' first demand holds of the definitions of the public calls that fill slices: wherever one of them does not give back the places, its number is 0. Assumes nothing.
use Prim.Native.Nat.{ℕ, ◌-◌}
use mathlib.Core.Path.{◌≡◌, refl}
use mathlib.Core.Bool.{Bool, true, false, cond}
use mathlib.Core.Logic.{◌⊎◌, ◌≢◌, inl, inr}
use mathlib.Core.List.{List}
use lib.Dec.{eqb, leb, ltb}
use lib.Ieee.{Float, lt}
use lib.ListN.{length}
use Rattle.arith.specs.Double.{#1e-10}
use Rattle.segv.specs.Families.{Families, either_stopped}
use Rattle.segv.specs.Row.{Slices, Numbered, answer, segv_row}
use Rattle.requests.specs.declared.checking.Kind.{Kind}
use Rattle.requests.specs.declared.checking.Mode.{Mode}
use Rattle.requests.specs.Refusals.{row_refusal, mode_refusal, not_finite}
use Rattle.rows.specs.Rows.{too_short, row_in, row_of, dlmf_in, dlmf_of}
use Rattle.modes.specs.Coefficients.{coefficients_of}
use Rattle.sheets.specs.Sheet.{sheet_refusal, sheet_of}
use Rattle.demands.specs.Demand1.{Demand1Rows, Demand1Dlmf, Demand1Coefficients, Demand1Sheets}

module _ {A : Type 0} (places : A) where
  record Kept (a : Numbered A) : Type 0 where
    holds : (a.number ≡ 0) ⊎ (a.after ≡ places)

  filled : (after : A) → Kept (answer 0 after)
  filled after = record { holds = inl refl }

  refused : (k : ℕ) → Kept (answer k places)
  refused k = record { holds = inr refl }

  either : (t : Bool) {a b : Numbered A} → Kept a → Kept b → Kept (cond t a b)
  either true p q = p
  either false p q = q

  keeps : (a : Numbered A) → Kept a → a.number ≢ 0 → a.after ≡ places
  keeps a p n = go p.holds
    where
      go : (a.number ≡ 0) ⊎ (a.after ≡ places) → a.after ≡ places
      go (inl z) = absurd (n z)
      go (inr s) = s

segv_kept : (r : Families) (n : ℕ) (l : Slices) → Kept l (segv_row r n l)
unfolding segv_row
segv_kept r n l = either l (either_stopped r) (refused l 10) (filled l _)

row_in_kept : (kind : Kind) (x : Mode) (allowance : ℕ) (l : Slices) → Kept l (row_in kind x allowance l)
unfolding row_in
row_in_kept kind x allowance l = either l (lt x.c #1e-10) (filled l _) (segv_kept _ _ l)

row_kept : (kind : Kind) (x : Mode) (allowance : ℕ) (l : Slices) → Kept l (row_of kind x allowance l)
unfolding row_of
row_kept kind x allowance l = either l (eqb (row_refusal x) 0) (either l (too_short x l) (refused l 9) (row_in_kept kind x allowance l)) (refused l _)

dlmf_in_kept : (kind : Kind) (x : Mode) (a : Numbered Slices) (xs : List Float) → Kept xs (dlmf_in kind x a xs)
unfolding dlmf_in
dlmf_in_kept kind x a xs = either xs (eqb a.number 0) (filled xs _) (refused xs _)

dlmf_kept : (kind : Kind) (x : Mode) (allowance : ℕ) (xs : List Float) → Kept xs (dlmf_of kind x allowance xs)
unfolding dlmf_of
dlmf_kept kind x allowance xs = either xs (eqb (row_refusal x) 0) (either xs (leb (length xs) (x.n - x.m)) (refused xs 9) (dlmf_in_kept kind x _ xs)) (refused xs _)

coefficients_kept : (kind : Kind) (x : Mode) (cv : Float) (xs : List Float) → Kept xs (coefficients_of kind x cv xs)
unfolding coefficients_of
coefficients_kept kind x cv xs =
    either xs (eqb (mode_refusal x) 0) (either xs (not_finite cv) (refused xs 7) (either xs (ltb (length xs) 200) (refused xs 9) (filled xs _))) (refused xs _)

sheet_kept : (kind : Kind) (m n allowance : ℕ) (cs xs block : List Float) → Kept block (sheet_of kind m n allowance cs xs block)
unfolding sheet_of
sheet_kept kind m n allowance cs xs block = either block (eqb (sheet_refusal kind m n allowance cs xs (length block)) 0) (filled block _) (refused block _)

pub demand_1_rows : Demand1Rows
demand_1_rows kind x allowance l = keeps l (row_of kind x allowance l) (row_kept kind x allowance l)

pub demand_1_dlmf : Demand1Dlmf
demand_1_dlmf kind x allowance xs = keeps xs (dlmf_of kind x allowance xs) (dlmf_kept kind x allowance xs)

pub demand_1_coefficients : Demand1Coefficients
demand_1_coefficients kind x cv xs = keeps xs (coefficients_of kind x cv xs) (coefficients_kept kind x cv xs)

pub demand_1_sheets : Demand1Sheets
demand_1_sheets kind m n allowance cs xs block = keeps block (sheet_of kind m n allowance cs xs block) (sheet_kept kind m n allowance cs xs block)

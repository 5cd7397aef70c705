-- The users' third demand holds of the definitions of the public rows. Assumes nothing.
use Prim.Native.Nat.{ℕ, zero, suc, ◌+◌, ◌-◌, ◌≤◌, ◌<◌}
use native.Mathlib.Omega.{arith}
use native.Mathlib.Decide.{ℕ_discrete}
use mathlib.Core.Path.{◌≡◌, refl, sym, ap, ◌∙◌}
use mathlib.Core.Bool.{Bool, true, false}
use mathlib.Core.List.{List}
use borrow.Author.Tests.{eqb-true, eqb-false, leb-false}
use lib.Dec.{T, eqb, leb}
use lib.Ieee.{Float, nan, binary64, fits}
use lib.Ieee.Fits.{mul-fits}
use lib.ListN.{length, set, length-set}
use lib.Seq.{get_or-set_same, get_or-set_other}
use Rattle.arith.specs.Double.{◌⊖◌, ◌⊗◌, at}
use Rattle.arith.proofs.Units.{times_one, times_minus_one, less_negative}
use Rattle.segv.specs.declared.bisection.Bracket.{Bracket}
use Rattle.segv.proofs.Sound.{row_sound}
use Rattle.requests.specs.declared.checking.Mode.{Mode}
use Rattle.requests.specs.declared.checking.Kind.{Kind}
use Rattle.requests.specs.declared.checking.Kind.TheVariants.{Prolate, Oblate}
use Rattle.requests.specs.Refusals.{row_refusal, sign_of, cs_of, entries_of}
use Rattle.rows.specs.Rows.{row_in, blank_slices, lessened, dlmf_in, dlmf_of}
use Rattle.demands.specs.Demand3.{eigenvalue, Demand3Rows, Demand3Dlmf}
use Rattle.requests.proofs.Laws.{accepted}
use Rattle.rows.proofs.Filled.{bracket_at, Given, given_in, filled, filled_of, long_all, blank_room}
use Rattle.demands.proofs.Handed.{handed_at}

pub demand_3_rows : Demand3Rows
demand_3_rows kind x allowance l h z j hj =
    let g = filled kind x allowance l h in
    let k = long_all x l g.long in
    let r = g.range in
    rw (g.is, handed_at x (bracket_at kind x allowance) l k j hj, z)
    (row_sound x.m x.n (cs_of kind x) (entries_of x) allowance (omega arith) (g.given.kept z) j hj)

-- ---- DLMF rows
module _ (values : List Float) (y : Float) (xs : List Float) where
  lessened_length : (n : ℕ) → length (lessened values y n xs) ≡ length xs
  unfolding lessened
  lessened_length zero = refl
  lessened_length (suc n) = length-set (lessened values y n xs) n (at values n ⊖ y) ∙ lessened_length n

  lessened_at : (n j : ℕ) → j < n → n ≤ length xs → at (lessened values y n xs) j ≡ at values j ⊖ y
  unfolding lessened
  lessened_at zero j h k = absurd (omega arith)
  lessened_at (suc n) j h k = pick (λ l. lessened_at n j l (omega arith)) (ℕ_discrete j n)
    where
      pick : (j < n → at (lessened values y n xs) j ≡ at values j ⊖ y) → Dec (j ≡ n) → at (set (lessened values y n xs) n (at values n ⊖ y)) j ≡ at values j ⊖ y
      pick before (yes e) = rw (e, get_or-set_same (lessened values y n xs) n (at values n ⊖ y) nan (let l = lessened_length n in omega arith))
      pick before (no ne) = get_or-set_other (lessened values y n xs) n j (at values n ⊖ y) nan ne ∙ before (omega arith)

-- an accepted DLMF row
record Taken (kind : Kind) (x : Mode) (allowance : ℕ) (xs : List Float) : Type 0 where
  none : row_refusal x ≡ 0
  long : x.n - x.m < length xs
  given : Given kind x allowance
  is : (dlmf_of kind x allowance xs).after ≡ lessened (row_in kind x allowance blank_slices).after.values (cs_of kind x) (x.n - x.m + 1) xs

taken : (kind : Kind) (x : Mode) (allowance : ℕ) (xs : List Float) → (dlmf_of kind x allowance xs).number ≡ 0 → Taken kind x allowance xs
unfolding dlmf_of dlmf_in
taken kind x allowance xs h = go (eqb (row_refusal x) 0) refl (leb (length xs) (x.n - x.m)) refl (eqb (row_in kind x allowance blank_slices).number 0) refl
  where
    go : (e : Bool) → eqb (row_refusal x) 0 ≡ e → (s : Bool) → leb (length xs) (x.n - x.m) ≡ s → (t : Bool) → eqb (row_in kind x allowance blank_slices).number 0 ≡ t → Taken kind x allowance xs
    go true he false hs true ht =
        record {
          none = eqb-true (row_refusal x) 0 he;
          long = leb-false (length xs) (x.n - x.m) hs;
          given = given_in kind x allowance blank_slices (eqb-true _ 0 ht);
          is = rw (he, hs, ht);
        }
    go true he false hs false ht = let w : (row_in kind x allowance blank_slices).number ≡ 0 = rw (he, hs, ht) at h in absurd (eqb-false _ 0 ht w)
    go true he true hs t ht = let w : ◌≡◌ {A = ℕ} 9 0 = rw (he, hs) at h in absurd (omega arith)
    go false he s hs t ht = let w : row_refusal x ≡ 0 = rw he at h in absurd (eqb-false (row_refusal x) 0 he w)

-- the product with 1 or −1 is exact, and to take −c × c away is to add c × c
by_kind : (kind : Kind) (value square : Float) → T (fits binary64 square) → value ⊖ square ⊗ sign_of kind ≡ eigenvalue kind value square
unfolding sign_of
by_kind Prolate value square f = ap (λ (y : Float). value ⊖ y) (times_one square f)
by_kind Oblate value square f = ap (λ (y : Float). value ⊖ y) (times_minus_one square f) ∙ less_negative value square

pub demand_3_dlmf : Demand3Dlmf
demand_3_dlmf kind x allowance xs l h t =
    let g = taken kind x allowance xs h in
    let f = bracket_at kind x allowance in
    let is = filled_of kind x allowance l g.none t g.given in (
      ap (λ a. a.number) is,
      λ j hj.
          rw (g.is, is, g.given.row_in_is blank_slices)
          (lessened_at _ (cs_of kind x) xs (x.n - x.m + 1) j (omega arith) (omega (arith, g.long))
          ∙ ap (λ (v : Float). v ⊖ cs_of kind x)
          (ap (λ (b : Bracket). b.value) (handed_at x f blank_slices (long_all x blank_slices (blank_room x (accepted x g.none))) j hj)
          ∙ sym (ap (λ (b : Bracket). b.value) (handed_at x f l (long_all x l t) j hj)))
          ∙ by_kind kind _ (x.c ⊗ x.c) (mul-fits binary64 x.c x.c)),
    )

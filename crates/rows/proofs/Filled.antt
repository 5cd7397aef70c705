-- What an accepted row is: the slices with the brackets of its modes in their first places. Assumes nothing.
use Prim.Native.Nat.{ℕ, zero, suc, ◌+◌, ◌-◌, ◌≤◌, ◌<◌}
use native.Mathlib.Omega.{arith}
use native.Mathlib.Decide.{ℕ_discrete}
use mathlib.Core.Path.{◌≡◌, refl, sym, subst, ◌∙◌}
use mathlib.Core.Bool.{Bool, true, false, cond, ◌||◌}
use mathlib.Core.List.{List}
use borrow.Author.Tests.{eqb-true, eqb-false, leb-false}
use lib.Dec.{eqb, leb}
use lib.Ieee.{lt}
use lib.ListN.{length, get_or, set, length-set, length-replicate}
use lib.Seq.{get_or-set_same, get_or-set_other}
use Rattle.arith.specs.Double.{#0, #1e-10}
use Rattle.arith.proofs.Flags.{not_left, neither}
use Rattle.segv.specs.declared.bisection.Bracket.{Bracket}
use Rattle.segv.specs.Families.{Families, both_families, either_stopped}
use Rattle.segv.specs.Row.{Slices, written, written_row, answer, mode_at, segv_row}
use Rattle.requests.specs.declared.checking.Mode.{Mode}
use Rattle.requests.specs.declared.checking.Kind.{Kind}
use Rattle.requests.specs.Refusals.{row_refusal, cs_of, entries_of}
use Rattle.rows.specs.Rows.{row_of, row_in, too_short, zero_at, blank_slices}
use Rattle.requests.proofs.Laws.{Accepted, accepted}
use Rattle.rows.proofs.Laws.{long_enough}

-- ---- what is written
module _ {A : Type 0} (field : Bracket → A) (bracket : ℕ → Bracket) (xs : List A) (d : A) where
  written_length : (n : ℕ) → length (written field bracket n xs) ≡ length xs
  unfolding written
  written_length zero = refl
  written_length (suc n) = length-set (written field bracket n xs) n (field (bracket n)) ∙ written_length n

  pub written_at : (n j : ℕ) → j < n → n ≤ length xs → get_or (written field bracket n xs) j d ≡ field (bracket j)
  unfolding written
  written_at zero j h k = absurd (omega arith)
  written_at (suc n) j h k = pick (λ l. written_at n j l (omega arith)) (ℕ_discrete j n)
    where
      pick : (j < n → get_or (written field bracket n xs) j d ≡ field (bracket j)) → Dec (j ≡ n)
          → get_or (set (written field bracket n xs) n (field (bracket n))) j d ≡ field (bracket j)
      pick before (yes e) = rw (e, get_or-set_same (written field bracket n xs) n (field (bracket n)) d (let l = written_length n in omega arith))
      pick before (no ne) = get_or-set_other (written field bracket n xs) n j (field (bracket n)) d ne ∙ before (omega arith)

-- ---- slices that are long enough
pub record Long (x : Mode) (l : Slices) : Type 0 where
  pub v : x.n - x.m < length l.values
  pub s : x.n - x.m < length l.steps
  pub w : x.n - x.m < length l.lowers
  pub u : x.n - x.m < length l.uppers
  pub f : x.n - x.m < length l.substituted

pub long_all : (x : Mode) (l : Slices) → too_short x l ≡ false → Long x l
unfolding too_short
long_all x l h =
    let k = x.n - x.m in
    let v = leb (length l.values) k in
    let s = leb (length l.steps) k in
    let w = leb (length l.lowers) k in
    let u = leb (length l.uppers) k in
    let f = neither (v || s || w || u) (leb (length l.substituted) k) h in
    let a = neither (v || s || w) u f.0 in
    let b = neither (v || s) w a.0 in
    let c = neither v s b.0 in
    record {
      v = leb-false (length l.values) k c.0;
      s = leb-false (length l.steps) k c.1;
      w = leb-false (length l.lowers) k b.1;
      u = leb-false (length l.uppers) k a.1;
      f = leb-false (length l.substituted) k f.1;
    }

pub blank_room : (x : Mode) → Accepted x → too_short x blank_slices ≡ false
unfolding blank_slices
blank_room x r =
    let d = length-replicate 200 #0 in
    let s = length-replicate {A = ℕ} 200 0 in
    long_enough x blank_slices (omega (arith, d, r)) (omega (arith, s, r)) (omega (arith, d, r)) (omega (arith, d, r)) (omega (arith, s, r))

-- ---- an accepted row
module _ (kind : Kind) (x : Mode) (allowance : ℕ) where
  abbrev pub both : Families
  both = both_families x.m x.n (cs_of kind x) (entries_of x) allowance

  -- the bracket of the mode at offset j
  abbrev pub bracket_at : ℕ → Bracket
  bracket_at j = cond (lt x.c #1e-10) (zero_at x.m j) (mode_at both j)

  -- in whatever slices
  pub record Given : Type 0 where
    pub kept : lt x.c #1e-10 ≡ false → either_stopped both ≡ false
    pub row_in_is : (l : Slices) → row_in kind x allowance l ≡ answer 0 (written_row bracket_at (x.n - x.m + 1) l)

  pub given_in : (l : Slices) → (row_in kind x allowance l).number ≡ 0 → Given
  unfolding row_in segv_row
  given_in l h = go (lt x.c #1e-10) refl (either_stopped both) refl
    where
      -- the row by its two ways, at once
      two_ways : Bool → Slices → Type 0
      two_ways z l =
          cond z (answer 0 (written_row (zero_at x.m) (x.n - x.m + 1) l)) (segv_row both (x.n - x.m + 1) l)
          ≡ answer 0 (written_row (λ j. cond z (zero_at x.m j) (mode_at both j)) (x.n - x.m + 1) l)

      go : (z : Bool) → lt x.c #1e-10 ≡ z → (f : Bool) → either_stopped both ≡ f → Given
      go true hz f hf = record { kept = λ e. not_left (rw hz at e); row_in_is = λ l. subst (λ (z : Bool). two_ways z l) (sym hz) refl }
      go false hz false hf = record { kept = λ e. hf; row_in_is = λ l. subst (λ (z : Bool). two_ways z l) (sym hz) (rw hf) }
      go false hz true hf = let w : ◌≡◌ {A = ℕ} 10 0 = rw (hz, hf) at h in absurd (omega arith)

  module _ (l : Slices) where
    pub record Filled : Type 0 where
      pub none : row_refusal x ≡ 0
      pub range : Accepted x
      pub long : too_short x l ≡ false
      pub given : Given
      pub is : row_of kind x allowance l ≡ answer 0 (written_row bracket_at (x.n - x.m + 1) l)

    pub filled : (row_of kind x allowance l).number ≡ 0 → Filled
    unfolding row_of
    filled h = go (eqb (row_refusal x) 0) refl (too_short x l) refl
      where
        go : (e : Bool) → eqb (row_refusal x) 0 ≡ e → (s : Bool) → too_short x l ≡ s → Filled
        go true he false hs =
            let g = given_in l (rw (he, hs) at h) in
            record { none = eqb-true (row_refusal x) 0 he; range = accepted x (eqb-true (row_refusal x) 0 he); long = hs; given = g; is = rw (he, hs) (g.row_in_is l) }
        go true he true hs = let w : ◌≡◌ {A = ℕ} 9 0 = rw (he, hs) at h in absurd (omega arith)
        go false he s hs = let w : row_refusal x ≡ 0 = rw he at h in absurd (eqb-false (row_refusal x) 0 he w)

    -- and back: a mode that is not refused, in long slices
    pub filled_of : row_refusal x ≡ 0 → too_short x l ≡ false → Given → row_of kind x allowance l ≡ answer 0 (written_row bracket_at (x.n - x.m + 1) l)
    unfolding row_of
    filled_of r s g = rw (r, s) (g.row_in_is l)

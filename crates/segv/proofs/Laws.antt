-- How the definitions of the bisection unfold, in the form in which the proofs of the code meet them.
use Prim.Native.Nat.{ℕ, suc, ◌+◌, ◌-◌, ◌/◌}
use mathlib.Core.Path.{◌≡◌, refl, sym, ap, ◌∙◌}
use mathlib.Core.Bool.{Bool, true, false}
use mathlib.Core.List.{List, []}
use native.Mathlib.Omega.{arith}
use lib.ListN.{set, replicate}
use mir.Val.{bool_byte}
use Rattle.sturm.specs.declared.gershgorin_bounds.Bounds.{Bounds}
use lib.Ieee.{Float}
use Rattle.segv.specs.declared.bisection.Bracket.{Bracket}
use Rattle.arith.proofs.Flags.{not_left}
use Rattle.std.specs.Prelude.{Result, Ok, Err, IsErr, is_err}
use Rattle.segv.specs.declared.bisection.OutOfSteps.{OutOfSteps}
use Rattle.sturm.specs.declared.pivots.Count.{Count}
use Rattle.sturm.specs.Pivots.{negative_pivots}
use Rattle.sturm.specs.Bounds.{bounds_of}
use Rattle.sturm.specs.Entries.{diagonal, off_diagonal}
use Rattle.segv.specs.declared.ends.Ends.{Ends}
use Rattle.segv.specs.Bisection.{Search, bisection, with_midpoint, converged, tighten, tighten_others}
use Rattle.segv.specs.Families.{Family, stopped, handed_on, ends_within, opened_at, family_from, bisected_family, blank_bracket, family_of, Families, both_families, either_stopped}
use Rattle.segv.specs.Inside.Arrays.{ends, families}
use Rattle.segv.specs.Row.{flag, mode_at, Slices, written_row, answer, segv_row}

-- a step that goes on counts one
pub steps_on : (j : Count) (number : ℕ) (r h t : Bracket) → h ≡ with_midpoint r → t ≡ tighten j number h → t.steps ≡ r.steps + 1
unfolding with_midpoint tighten
steps_on j number r h t hh ht = rw (ht, hh)

module _ (ds es : List Float) (entries places number : ℕ) where
  pub out_of_steps : (r : Bracket) (s : Ends) → bisection ds es entries places number 0 r s ≡ record { found = Err (record {}); ends = s }
  unfolding bisection
  out_of_steps r s = refl

  pub met : (left l : ℕ) (r h : Bracket) (s : Ends) (b : Bool) → left ≡ suc l → h ≡ with_midpoint r → b ≡ converged h → b ≡ true
      → bisection ds es entries places number left r s ≡ record { found = Ok h; ends = s }
  unfolding bisection
  met left l r h s b hl hh hb ht = rw (hl, ← hh, ← hb, ht)

  pub on : (left l : ℕ) (r h : Bracket) (s : Ends) (b : Bool) (j : Count) (t : Bracket) (after : Ends) → left ≡ suc l → h ≡ with_midpoint r → b ≡ converged h → b ≡ false
      → j ≡ negative_pivots ds es entries h.value → t ≡ tighten j number h → after ≡ tighten_others places number j h.value s
      → bisection ds es entries places number left r s ≡ bisection ds es entries places number l t after
  unfolding bisection
  on left l r h s b j t after hl hh hb hf hj ht ha = rw (hl, ← hh, ← hb, hf, ← hj, ← ht, ← ha)

module _ (ds es : List Float) (entries places allowance : ℕ) where
  abbrev Fam : ℕ → ℕ → Ends → List Bracket → Family
  Fam = family_from ds es entries places allowance

  pub all_found : (left p : ℕ) (s : Ends) (out : List Bracket) → left ≡ 0 → Ok out ≡ Fam left p s out
  unfolding family_from
  all_found left p s out h = rw h

  pub one_out_of_steps : (left l p : ℕ) (start : Bracket) (s after : Ends) (out : List Bracket) (r : Search) (e : OutOfSteps) → left ≡ suc l → start ≡ opened_at s p places
      → record { found = r; ends = after } ≡ bisection ds es entries places (p + 1) allowance start s → r ≡ Err e
      → Fam left p s out ≡ Err out
  unfolding family_from
  one_out_of_steps left l p start s after out r e hl ho b h = rw (hl, ← ho, ← b, h)

  pub one_found : (left l p : ℕ) (start : Bracket) (s after : Ends) (out : List Bracket) (r : Search) (v : Bracket) → left ≡ suc l → start ≡ opened_at s p places
      → record { found = r; ends = after } ≡ bisection ds es entries places (p + 1) allowance start s → r ≡ Ok v
      → Fam left p s out ≡ Fam l (p + 1) (ends after.uppers (set after.lowers p v.lower)) (set out p v)
  unfolding family_from
  one_found left l p start s after out r v hl ho b h = rw (hl, ← ho, ← b, h)

-- there is one error
pub is_out : {A : Type 0} (r : Result A OutOfSteps) → IsErr r → r ≡ Err (record {})
is_out (Ok x) h = absurd (not_left (sym h))
is_out (Err e) h = refl

-- from the first place on
pub from_first : (ds es : List Float) (entries places allowance : ℕ) (bounds : Bounds) (s : Ends) (out : List Bracket)
    → s ≡ ends_within bounds → out ≡ replicate 100 blank_bracket
    → family_from ds es entries places allowance (places - 0) 0 s out ≡ bisected_family ds es entries places allowance bounds
unfolding bisected_family
from_first ds es entries places allowance bounds s out hs ho =
    let e : places - 0 ≡ places = omega arith in rw (e, hs, ho)

-- what is given of the family that is bisected is given of the matrix's family
pub family_is : {R : Type 0} (give : Family → R) (m parity : ℕ) (cs : Float) (entries places allowance : ℕ) (d e : List Float) (k : ℕ) (bounds : Bounds) (r : R)
    → r ≡ give (bisected_family d e k places allowance bounds) → bounds ≡ bounds_of d e k
    → d ≡ diagonal m parity cs entries → e ≡ off_diagonal m parity cs entries → k ≡ entries
    → r ≡ give (family_of m parity cs entries places allowance)
unfolding family_of
family_is give m parity cs entries places allowance d e k bounds r hr hh hd he hk = rw (hr, hh, hd, he, hk)

-- what is handed on tells whether the family stopped, and the brackets of one that did not
stops : (f : Family) (r : Result (List Bracket) OutOfSteps) (e : OutOfSteps) → r ≡ handed_on f → r ≡ Err e → stopped f ≡ true
stops (Ok out) r e h k = absurd (not_left (ap is_err (sym k ∙ h)))
stops (Err out) r e h k = refl

-- a family from what is handed on, where that has brackets
abbrev taken : Result (List Bracket) OutOfSteps → Family
taken (Ok out) = Ok out
taken (Err e) = Err []

goes_on : (f : Family) (r : Result (List Bracket) OutOfSteps) (out : List Bracket) → r ≡ handed_on f → r ≡ Ok out → f ≡ Ok out
goes_on (Ok x) r out h k = ap taken (sym h ∙ k)
goes_on (Err x) r out h k = absurd (not_left (ap is_err (sym h ∙ k)))

-- ---- the row

-- a yes or no as a byte
pub byte_flag : (b : Bool) → bool_byte b ≡ flag b
byte_flag true = refl
byte_flag false = refl

module _ (n : ℕ) (x : Slices) where
  turned_back : (r : Families) → either_stopped r ≡ true → answer 10 x ≡ segv_row r n x
  unfolding segv_row
  turned_back r h = rw h

  written_out : (r : Families) (y : Slices) → either_stopped r ≡ false → y ≡ written_row (mode_at r) n x → answer 0 y ≡ segv_row r n x
  unfolding segv_row
  written_out r y h k = rw (h, k)

  module _ (m top : ℕ) (cs : Float) (entries allowance : ℕ) where
    abbrev All : Families
    All = both_families m top cs entries allowance

    abbrev half : ℕ
    half = (top - m + 2) / 2

    pub even_out_of_steps : (f : Result (List Bracket) OutOfSteps) (e : OutOfSteps) → f ≡ handed_on (family_of m 0 cs entries half allowance) → f ≡ Err e → answer 10 x ≡ segv_row All n x
    unfolding both_families either_stopped
    even_out_of_steps f e hf h = turned_back All (rw (stops (family_of m 0 cs entries half allowance) f e hf h))

    pub odd_out_of_steps : (f g : Result (List Bracket) OutOfSteps) (even : List Bracket) (e : OutOfSteps) → f ≡ handed_on (family_of m 0 cs entries half allowance) → g ≡ handed_on (family_of m 1 cs entries half allowance) → f ≡ Ok even → g ≡ Err e
        → answer 10 x ≡ segv_row All n x
    unfolding both_families either_stopped
    odd_out_of_steps f g even e hf hg h k = turned_back All (rw (goes_on _ f even hf h, stops _ g e hg k))

    pub both : (f g : Result (List Bracket) OutOfSteps) (even odd : List Bracket) (y : Slices) → f ≡ handed_on (family_of m 0 cs entries half allowance) → g ≡ handed_on (family_of m 1 cs entries half allowance)
        → f ≡ Ok even → g ≡ Ok odd → y ≡ written_row (mode_at (families even odd)) n x → answer 0 y ≡ segv_row All n x
    unfolding both_families either_stopped
    both f g even odd y hf hg h k d = let p = goes_on _ f even hf h in let q = goes_on _ g odd hg k in written_out All y (rw (p, q)) (rw (p, q) d)

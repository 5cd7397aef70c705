-- How the definitions of refusals unfold, in the form in which the proofs of the code meet them. Assumes nothing.
use Prim.Native.Nat.{ℕ, ◌-◌, ◌≤◌, ◌<◌}
use native.Mathlib.Omega.{arith}
use mathlib.Core.Path.{◌≡◌, refl, ap}
use mathlib.Core.Bool.{Bool, true, false, cond, not, ◌||◌}
use borrow.Author.Tests.{eqb-true, ltb-false}
use lib.Dec.{ltb, eqb}
use lib.Ieee.{Float, nan, inf, fin, lt, of_bits}
use Rattle.std.specs.Float.{float_is_finite}
use Rattle.std.specs.Prelude.{Result, Ok, Err, IsErrAnd}
use Rattle.arith.specs.Double.{#0}
use Rattle.arith.specs.Truncation.{whole_part}
use Rattle.arith.proofs.Flags.{not_left, not_taken, neither}
use Rattle.arith.proofs.Laws.{whole_below}
use Rattle.expansion.specs.Terms.{h_of, Usable, #175}
use Rattle.requests.specs.declared.checking.Mode.{Mode}
use Rattle.requests.specs.declared.refusals.Refusal.{Refusal}
use Rattle.requests.specs.declared.refusals.Refusal.TheVariants.{CutShort, WrongMark, UnknownOperation, OutOfRange, SizeParameter, TooLarge, CharacteristicValue, Argument, ShortSlice, OutOfSteps, TooFar, NoOrder, SheetTooLarge}
use Rattle.requests.specs.Answers.{number_of, code}
use Rattle.requests.specs.Refusals.{out_of_range, no_parameter, refusal_of, row_refusal, mode_refusal, entries_of, #291, not_finite}

-- ---- numbers
-- no refusal has the number of none
pub some_number : (e : Refusal) → number_of e ≡ 0 → ⊥
some_number CutShort h = omega arith
some_number WrongMark h = omega arith
some_number UnknownOperation h = omega arith
some_number OutOfRange h = omega arith
some_number SizeParameter h = omega arith
some_number TooLarge h = omega arith
some_number CharacteristicValue h = omega arith
some_number Argument h = omega arith
some_number ShortSlice h = omega arith
some_number OutOfSteps h = omega arith
some_number TooFar h = omega arith
some_number NoOrder h = omega arith
some_number SheetTooLarge h = omega arith

-- what `?` hands on has the number of the error that was made of it
pub error_code : {A : Type 0} (r : Result A Refusal) (e : Refusal) → IsErrAnd r (λ refusal. refusal ≡ e) → code r ≡ number_of e
error_code (Ok x) e h = absurd h
error_code (Err refusal) e h = ap number_of h

-- ---- refusal 5
pub endless_refused : (c : Float) → float_is_finite c ≡ false → true ≡ no_parameter c
unfolding no_parameter float_is_finite
endless_refused nan h = refl
endless_refused (inf s) h = refl
endless_refused (fin s m e) h = not_left h

pub negative_refused : (c : Float) → float_is_finite c ≡ true → lt c #0 ≡ no_parameter c
unfolding no_parameter float_is_finite
negative_refused nan h = not_taken h
negative_refused (inf s) h = not_taken h
negative_refused (fin s m e) h = refl

pub not_negative : (c : Float) → no_parameter c ≡ false → lt c #0 ≡ false
unfolding no_parameter
not_negative nan h = not_left h
not_negative (inf s) h = not_left h
not_negative (fin s m e) h = h

-- ---- refusal 7
pub finite_is : (x : Float) → not (float_is_finite x) ≡ not_finite x
unfolding not_finite float_is_finite
finite_is nan = refl
finite_is (inf s) = refl
finite_is (fin s m e) = refl

-- ---- a mode that is not refused
pub record Accepted (x : Mode) : Type 0 where
  pub order : x.m ≤ 199
  pub rising : x.m ≤ x.n
  pub span : x.n - x.m ≤ 199
  pub parameter : no_parameter x.c ≡ false
  pub below : lt (h_of (x.n - x.m) x.c) #291 ≡ true
  pub some : 10 ≤ entries_of x
  pub few : entries_of x ≤ 300

none_applies : (a b c : Bool) → ◌≡◌ {A = ℕ} (cond a 4 (cond b 5 (cond c 0 6))) 0 → (a ≡ false) × (b ≡ false) × (c ≡ true)
none_applies true b c h = absurd (omega arith)
none_applies false true c h = absurd (omega arith)
none_applies false false true h = (refl, refl, refl)
none_applies false false false h = absurd (omega arith)

passes : (limit : Float) (x : Mode) → refusal_of limit x ≡ 0 → (out_of_range x ≡ false) × (no_parameter x.c ≡ false) × (lt (h_of (x.n - x.m) x.c) limit ≡ true)
unfolding refusal_of
passes limit x h = none_applies (out_of_range x) (no_parameter x.c) (lt (h_of (x.n - x.m) x.c) limit) h

pub ranges : (x : Mode) → out_of_range x ≡ false → (x.m ≤ 199) × (x.m ≤ x.n) × (x.n - x.m ≤ 199)
unfolding out_of_range
ranges x p =
    let q = neither (ltb 199 x.m || ltb x.n x.m) (ltb 199 (x.n - x.m)) p in
    let s = neither (ltb 199 x.m) (ltb x.n x.m) q.0 in
    (ltb-false 199 x.m s.0, ltb-false x.n x.m s.1, ltb-false 199 (x.n - x.m) q.1)

-- what the routines over coefficients ask
pub usable : (x : Mode) → mode_refusal x ≡ 0 → Usable x.m x.n x.c
usable x h =
    let p = passes #175 x h in
    let r = ranges x p.0 in
    (omega (arith, r), omega (arith, r), omega (arith, r), not_negative x.c p.1, p.2)

-- the whole part of H
pub whole_few : (x : Mode) → row_refusal x ≡ 0 → whole_part (h_of (x.n - x.m) x.c) < 291
unfolding of_bits
whole_few x h = whole_below (h_of (x.n - x.m) x.c) #291 291 (refl, refl) (omega arith) (passes #291 x h).2

pub accepted : (x : Mode) → row_refusal x ≡ 0 → Accepted x
unfolding entries_of
accepted x h =
    let p = passes #291 x h in
    let r = ranges x p.0 in
    let k = whole_few x h in
    record {
      order = r.0;
      rising = r.1;
      span = r.2;
      parameter = p.1;
      below = p.2;
      some = omega arith;
      few = omega (arith, k);
    }

-- a first refusal k leaves the number 0 only where k is 0
pub none : (k j : ℕ) → cond (eqb k 0) j k ≡ 0 → k ≡ 0
none k j h = go (eqb k 0) refl
  where
    go : (t : Bool) → eqb k 0 ≡ t → k ≡ 0
    go true e = eqb-true k 0 e
    go false e = rw e at h

-- What the comparisons of a double with zero tell of it: the cases of `Log10`. Assumes nothing.
use mathlib.Core.Path.{◌≡◌, refl, sym, ap, subst}
use mathlib.Core.Bool.{Bool, true, false, ◌&&◌, ◌||◌, beq, true≢false}
use Prim.Native.Nat.{ℕ, zero, suc, ◌*◌, ◌≤◌, ◌<◌}
use native.Mathlib.Nat.{zero-mul, mul-pos, zero-lt-suc}
use native.Mathlib.Omega.{arith}
use borrow.Author.Tests.{ltb-true, ltb-false, eqb-true}
use lib.Dec.{ltb, eqb}
use lib.IntN.{ℤ, pos}
use lib.Ieee.{Float, nan, inf, fin, up, down, level, lt, eq}
use lib.Ieee.Fits.{up_pos}
use Rattle.logarithms.specs.Log10.{Log10, Near}

abbrev nought : Float
nought = fin false 0 (pos 0)

none : {X : Type 0} → false ≡ true → X
none e = absurd (true≢false (sym e))

none' : {X : Type 0} → true ≡ false → X
none' e = absurd (true≢false e)

-- each side of a comparison of m * 2 ^ e with zero
side_pos : (m : ℕ) (e : ℤ) → 0 < suc m * up e * 1
side_pos m e = mul-pos (mul-pos (zero-lt-suc m) (up_pos e)) (zero-lt-suc 0)

side_zero : (e : ℤ) → 0 * up e * 1 ≡ 0
side_zero e = ap (λ (x : ℕ). x * 1) (zero-mul (up e))

other_zero : (e : ℤ) → 0 * 1 * down e ≡ 0
other_zero e = zero-mul (down e)

both_zero : {X : Type 0} (a b : ℕ) → b ≡ 0 → ltb a b ≡ true → X
both_zero a b p h = absurd (go (ltb-true a b h))
  where
    go : a < b → ⊥
    go l = omega arith

not_over : {X : Type 0} (a b : ℕ) → b ≡ 0 → 0 < a → ltb b a ≡ false → X
not_over a b p q h = absurd (go (ltb-false b a h))
  where
    go : a ≤ b → ⊥
    go l = omega arith

and_first : (a b : Bool) → (a && b) ≡ true → a ≡ true
and_first true b h = refl
and_first false b h = none h

not_level : {X : Type 0} (s : Bool) (a b : ℕ) → b ≡ 0 → 0 < a → level s a false b ≡ true → X
not_level s a b p q h = absurd (go (eqb-true a b (and_first (eqb a b) (beq s false || eqb a 0) h)))
  where
    go : a ≡ b → ⊥
    go e = omega arith

level_zero : {X : Type 0} (s : Bool) (a b : ℕ) → a ≡ 0 → b ≡ 0 → level s a false b ≡ false → X
level_zero {X} s a b p q h = go s (subst (λ (y : ℕ). level s 0 false y ≡ false) q (subst (λ (y : ℕ). level s y false b ≡ false) p h))
  where
    go : (s : Bool) → level s 0 false 0 ≡ false → X
    go true k = none' k
    go false k = none' k

pub is_number : (x r : Float) → lt nought x ≡ true → lt x (inf false) ≡ true → Near x r → Log10 x r
unfolding lt
is_number nan r p q h = none p
is_number (inf true) r p q h = none p
is_number (inf false) r p q h = none q
is_number (fin true m e) r p q h = none p
is_number (fin false zero e) r p q h = both_zero (0 * 1 * down e) (0 * up e * 1) (side_zero e) p
is_number (fin false (suc m) e) r p q h = h

pub is_inf : (x : Float) → lt nought x ≡ true → lt x (inf false) ≡ false → Log10 x x
unfolding lt
is_inf nan p q = none p
is_inf (inf true) p q = none p
is_inf (inf false) p q = refl
is_inf (fin s m e) p q = none' q

pub is_zero : (x : Float) → eq x nought ≡ true → Log10 x (inf true)
unfolding eq
is_zero nan p = none p
is_zero (inf s) p = none p
is_zero (fin s zero e) p = refl
is_zero (fin false (suc m) e) p = not_level false (suc m * up e * 1) (0 * 1 * down e) (other_zero e) (side_pos m e) p
is_zero (fin true (suc m) e) p = not_level true (suc m * up e * 1) (0 * 1 * down e) (other_zero e) (side_pos m e) p

pub is_none : (x : Float) → lt nought x ≡ false → eq x nought ≡ false → Log10 x nan
unfolding lt eq
is_none nan p q = refl
is_none (inf true) p q = refl
is_none (inf false) p q = none' p
is_none (fin s zero e) p q = level_zero s (0 * up e * 1) (0 * 1 * down e) (side_zero e) (other_zero e) q
is_none (fin true (suc m) e) p q = refl
is_none (fin false (suc m) e) p q = not_over (suc m * up e * 1) (0 * 1 * down e) (other_zero e) (side_pos m e) p

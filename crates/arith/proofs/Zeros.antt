-- A double that equals zero, of either sign: it is no more than a number that is not below zero. Assumes nothing.
use Rattle.std.proofs.Common.{◌≡◌, ℕ, ◌*◌, ◌≤◌, Bool, true, false, ◌&&◌, eqb, ℤ, sym, refl, ap, ◌∙◌, zero-mul, mul-one, arith, le-ltb, eqb-true}
use lib.Ieee.{Float, nan, inf, fin, up, down, lt, eq, of_bits}
use Rattle.arith.specs.Double.{#0}
use Rattle.arith.proofs.Flags.{not_taken}

-- the size of +0 over any divisor
pub nothing : (e : ℤ) → 0 * 1 * down e ≡ 0
nothing e = ap (λ (z : ℕ). z * down e) (zero-mul 1) ∙ zero-mul (down e)

pub zero_size : (s : Bool) (m : ℕ) (e : ℤ) → eq (fin s m e) #0 ≡ true → m * up e ≡ 0
unfolding eq of_bits
zero_size s m e h = sym (mul-one (m * up e)) ∙ same (m * up e * 1) (0 * 1 * down e) _ h ∙ nothing e
  where
    same : (a b : ℕ) (t : Bool) → (eqb a b && t) ≡ true → a ≡ b
    same a b t h = go (eqb a b) refl h
      where
        go : (q : Bool) → eqb a b ≡ q → (q && t) ≡ true → a ≡ b
        go true p h = eqb-true a b p
        go false p h = not_taken h

pub zero_not_above : (k : ℕ) (d : ℤ) (x : Float) → eq x #0 ≡ true → lt (fin false k d) x ≡ false
unfolding lt eq of_bits
zero_not_above k d nan h = not_taken h
zero_not_above k d (inf s) h = not_taken h
zero_not_above k d (fin true m e) h = refl
zero_not_above k d (fin false m e) h = le-ltb _ _ (least (ap (λ (a : ℕ). a * down d) (zero_size false m e h) ∙ zero-mul (down d)))
  where
    least : {a b : ℕ} → b ≡ 0 → b ≤ a
    least z = omega arith

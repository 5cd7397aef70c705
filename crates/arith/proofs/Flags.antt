-- Two flags that differ, which rule out a case; two of which neither is set; and what holds of a choice by a flag. Assumes nothing.
use Rattle.std.proofs.Common.{◌≡◌, Bool, true, false, cond, ◌||◌, T, sym, refl, true≢false}

pub not_taken : {X : Type 0} → false ≡ true → X
not_taken e = absurd (true≢false (sym e))

pub not_left : {X : Type 0} → true ≡ false → X
not_left e = absurd (true≢false e)

pub not_both : {X : Type 0} (b : Bool) → b ≡ false → T b → X
not_both true e t = not_left e
not_both false e t = absurd t

pub neither : (a b : Bool) → (a || b) ≡ false → (a ≡ false) × (b ≡ false)
neither true b h = not_left h
neither false b h = (refl, h)

pub cases : {A : Type 0} (P : A → Type 0) (t : Bool) (a b : A) → (t ≡ true → P a) → (t ≡ false → P b) → P (cond t a b)
cases P true a b f g = f refl
cases P false a b f g = g refl

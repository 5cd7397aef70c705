-- How the definitions of angular pairs and radial functions unfold, in the form in which the proofs of the code meet them. Assumes nothing.
use Prim.Native.Nat.{ℕ, ◌+◌, ◌-◌, ◌*◌, ◌≤◌}
use native.Mathlib.Omega.{arith}
use mathlib.Core.Path.{◌≡◌, refl, sym}
use mathlib.Core.Bool.{Bool, true, false, cond}
use borrow.Author.Tests.{ltb-false}
use lib.Dec.{ltb}
use lib.Ieee.{Float, nan, inf, fin, is_nan, lt, eq}
use Rattle.arith.specs.Double.{#0, #1}
use Rattle.arith.specs.Choice.{abs}
use Rattle.arith.proofs.Flags.{not_left, not_taken, neither}
use Rattle.expansion.specs.Terms.{terms_of}
use Rattle.expansion.specs.declared.terms.Mode as expansion
use Rattle.requests.specs.declared.checking.Mode.{Mode}
use Rattle.requests.specs.Refusals.{asked, no_parameter, radial_mode_refusal, too_far}
use Rattle.requests.proofs.Laws.{none}
use Rattle.modes.specs.Radial.{radial_refusal}
use Rattle.modes.specs.Angular.{outside}

-- ---- refusal 8
pub nan_outside : (x : Float) → is_nan x ≡ true → true ≡ outside x
unfolding outside is_nan
nan_outside nan h = refl
nan_outside (inf s) h = not_taken h
nan_outside (fin s m e) h = not_taken h

pub size_outside : (x : Float) → is_nan x ≡ false → lt #1 (abs x) ≡ outside x
unfolding outside is_nan
size_outside nan h = not_left h
size_outside (inf s) h = refl
size_outside (fin s m e) h = refl

-- ---- radial functions
module _ (mode : Mode) (cv x : Float) (h : radial_refusal mode cv x ≡ 0) where
  common_passes : radial_mode_refusal mode cv ≡ 0
  unfolding radial_refusal
  common_passes = none (radial_mode_refusal mode cv) _ h

  near : too_far mode x ≡ false
  unfolding radial_refusal
  near = go (no_parameter x) (too_far mode x) (rw common_passes at h)
    where
      go : (a b : Bool) → ◌≡◌ {A = ℕ} (cond a 8 (cond b 11 0)) 0 → b ≡ false
      go true b e = absurd (omega arith)
      go false true e = absurd (omega arith)
      go false false e = refl

  orders : eq x #0 ≡ false → 2 * terms_of (mode.n - mode.m) mode.c + mode.m ≤ 251
  unfolding too_far
  orders o = ltb-false 251 _ (neither (ltb 251 (2 * terms_of (mode.n - mode.m) mode.c + mode.m)) _ (rw o at near)).0

-- where nothing is refused, a mode off the disc has few orders
pub radial_orders : (usable : expansion.Mode) (mode : Mode) (cv x : Float) → asked usable ≡ mode → 0 ≡ radial_refusal mode cv x → eq x #0 ≡ false
    → 2 * terms_of (usable.n - usable.m) usable.c + usable.m ≤ 251
radial_orders usable mode cv x e h o = orders (asked usable) cv x (rw e (sym h)) o

-- What `is_sure` and `arctangent_above_zero` come to, test by test. Assumes nothing.
use mathlib.Core.Path.{◌≡◌, ◌∙◌}
use mathlib.Core.Bool.{Bool, true, false}
use Prim.Native.Nat.{ℕ, ◌*◌, ◌/◌, ◌^◌, ◌≤◌, ◌<◌}
use borrow.Author.Tests.{lt-ltb, le-ltb}
use lib.Ieee.{Float, lt}
use Rattle.arith.specs.Double.{#0, #2}
use Rattle.arith.specs.Inside.Scaled.{Parts}
use Rattle.circle.specs.Inside.FixedValues.{unpacked, parts}
use Rattle.arctangents.specs.Inside.ArctangentValues.{encloses, fine, beneath, is_sure, guess, bisected, arctangent_above_zero}

module _ (g : Float) (m e : ℕ) where
  pub not_above : lt #0 g ≡ false → is_sure g m e ≡ false
  unfolding is_sure
  not_above h = rw h

  pub not_below : lt #0 g ≡ true → lt g #2 ≡ false → is_sure g m e ≡ false
  unfolding is_sure
  not_below h k = rw (h, k)

  pub not_fine : (y : ℕ) → lt #0 g ≡ true → lt g #2 ≡ true → y ≡ fine g → 7 * 2 ^ 56 ≤ y → is_sure g m e ≡ false
  unfolding is_sure
  not_fine y h k f l = rw (h, k, ← f, le-ltb _ _ l)

  pub enclosed : (y low : ℕ) (b : Bool) → lt #0 g ≡ true → lt g #2 ≡ true → y ≡ fine g → y < 7 * 2 ^ 56 → low ≡ beneath y → b ≡ encloses low m e → is_sure g m e ≡ b
  unfolding is_sure
  enclosed y low b h k f l n i = rw (h, k, ← f, lt-ltb _ _ l, ← n, ← i)

module _ (x g : Float) (s : Parts) (is : s ≡ unpacked x) (guessed : g ≡ guess x) where
  same : is_sure (guess x) (unpacked x).m (unpacked x).e ≡ is_sure g s.m s.e
  same = rw (is, guessed)

  pub sure : is_sure g s.m s.e ≡ true → g ≡ arctangent_above_zero x
  unfolding arctangent_above_zero
  sure h = rw (same ∙ h, arctangent_above_zero) guessed

  pub unsure : (low : ℕ) → low ≡ bisected s.m s.e → is_sure g s.m s.e ≡ false → parts (low / 2 ^ 6) ≡ arctangent_above_zero x
  unfolding arctangent_above_zero
  unsure low f h = rw (same ∙ h, arctangent_above_zero) (rw (f, is))

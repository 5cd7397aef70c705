-- The pairs at x and −x. Both come from |x|, and only their signs differ. Assumes nothing.
use Prim.Native.Nat.{ℕ, ◌+◌, ◌*◌, ◌<◌, ◌≤◌}
use mathlib.Core.Path.{◌≡◌, refl}
use mathlib.Core.Bool.{true, false}
use native.Mathlib.Nat.{zero-mul}
use native.Mathlib.Omega.{arith}
use borrow.Author.Tests.{ltb-true, lt-ltb, le-ltb}
use lib.Ieee.{Float, nan, inf, fin, up, down, lt, neg, of_bits}
use Rattle.arith.specs.Double.{#0}
use Rattle.arith.specs.Choice.{abs}
use Rattle.arith.proofs.Flags.{not_taken}
use Rattle.arith.proofs.Laws.{abs_neg}
use Rattle.angular.specs.Aswfa.{sign_at, aswfa}
use Rattle.angular.specs.MirrorLaw.{MirrorLaw, ZeroLaw}

-- ---- x above zero is not below it, and −x is
above_zero : (x : Float) → lt #0 x ≡ true → (lt x #0 ≡ false) × (lt (neg x) #0 ≡ true)
unfolding lt neg of_bits
above_zero nan h = not_taken h
above_zero (inf true) h = not_taken h
above_zero (inf false) h = (refl, refl)
above_zero (fin true m e) h = not_taken h
above_zero (fin false m e) h =
    let l = less (0 * down e) (m * up e * 1) (zero-mul (down e)) (ltb-true (0 * down e) (m * up e * 1) h) in
    (le-ltb (m * up e * 1) (0 * down e) l.0, lt-ltb 0 (m * up e * 1 + 0 * down e) l.1)
  where
    less : (z a : ℕ) → z ≡ 0 → z < a → (z ≤ a) × (0 < a + z)
    less z a e l = (omega arith, omega arith)

pub mirror : MirrorLaw
unfolding aswfa sign_at
mirror m n c cv kd x h = let s = above_zero x h in rw (abs_neg x, s.0, s.1)

pub at_zero : ZeroLaw
unfolding aswfa sign_at abs lt neg of_bits
at_zero m n c cv kd = refl

-- `joining::kmn::r2_of` meets its contract. The invariant: r2 has the factors below j. Assumes nothing.
use Prim.Native.Nat.{ℕ, suc, ◌+◌, ◌-◌}
use mathlib.Core.Path.{◌≡◌, refl}
use native.Mathlib.Omega.{arith}
use lib.Ieee.{Float}
use Rattle.arith.specs.Double.{◌⊗◌, dbl, #2}
use Rattle.joining.specs.Kmn.{r2_of}
use Rattle.joining.proofs.kmn.r2_of.Goals as goal

one_more : (c r2 : Float) (j k : ℕ) → j ≡ suc k → r2 ≡ r2_of c k → #2 ⊗ c ⊗ r2 ⊗ dbl j ≡ r2_of c j
unfolding r2_of
one_more c r2 j k e h = rw (e, h)

pub loop-j-init : goal.loop-j-init
unfolding r2_of
loop-j-init c = refl

pub loop-j-preserved : goal.loop-j-preserved
loop-j-preserved c =
    let l = c.loop-j in
    let h : l.j + 1 - 1 ≡ l.j = omega arith in
    rw h (one_more _ _ l.j (l.j - 1) (omega arith) l.invariant)

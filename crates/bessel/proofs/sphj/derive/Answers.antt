-- `bessel::sphj::derive` meets its contract. The invariant: the derivatives below order k are there. Assumes nothing.
use Prim.Native.Nat.{◌+◌, ◌-◌}
use mathlib.Core.Path.{◌≡◌, refl}
use native.Mathlib.Omega.{arith}
use Rattle.bessel.specs.Sphj.{derived}
use Rattle.bessel.proofs.Laws.{one_derived}
use Rattle.bessel.proofs.sphj.derive.Goals as goal

pub loop-k-init : goal.loop-k-init
unfolding derived
loop-k-init c = refl

pub loop-k-preserved : goal.loop-k-preserved
loop-k-preserved c =
    let l = c.loop-k in
    let h : l.k + 1 - 1 ≡ l.k = omega arith in
    rw h (one_derived _ _ _ _ l.k (l.k - 1) (omega arith) l.invariant)

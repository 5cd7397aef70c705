-- `expansion::sdmn::scale` meets its contract. Assumes nothing.
use Prim.Native.Nat.{◌-◌, suc}
use mathlib.Core.Path.{◌≡◌}
use native.Mathlib.Omega.{arith}
use native.Mathlib.Numerals.{add-one}
use Rattle.expansion.specs.Sdmn.{scaled}
use Rattle.expansion.proofs.sdmn.scale.Goals as goal

pub loop-i-preserved : goal.loop-i-preserved
unfolding scaled
loop-i-preserved c =
    let a = c.args in
    let l = c.loop-i in
    let h : a.to - l.i ≡ suc (a.to - suc l.i) = omega arith in
    rw (add-one l.i) (rw h at l.invariant)

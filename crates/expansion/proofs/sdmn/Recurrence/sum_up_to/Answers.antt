-- `expansion::sdmn::Recurrence::sum_up_to` meets its contract. Assumes nothing.
use Prim.Native.Nat.{◌-◌, suc}
use mathlib.Core.Path.{◌≡◌}
use Rattle.expansion.specs.Sdmn.{sum_on}
use native.Mathlib.Omega.{arith}
use native.Mathlib.Numerals.{add-one}
use Rattle.expansion.proofs.sdmn.Recurrence.sum_up_to.Goals as goal

pub loop-k-preserved : goal.loop-k-preserved
unfolding sum_on
loop-k-preserved c =
    let a = c.args in
    let l = c.loop-k in
    let h : suc a.kb - l.k ≡ suc (suc a.kb - suc l.k) = omega arith in
    rw (add-one l.k, c.next_factor-r1.ensures) (rw h at l.invariant)

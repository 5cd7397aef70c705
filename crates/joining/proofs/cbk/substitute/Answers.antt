-- `joining::cbk::substitute` meets its contract. The invariant: the rows that are left give what all give. Assumes nothing.
use Prim.Native.Nat.{suc, ◌-◌}
use mathlib.Core.Path.{◌≡◌}
use native.Mathlib.Omega.{arith}
use native.Mathlib.Numerals.{add-one}
use Rattle.joining.specs.Cbk.{substituted}
use Rattle.joining.proofs.cbk.substitute.Goals as goal

pub loop-k-preserved : goal.loop-k-preserved
unfolding substituted
loop-k-preserved c =
    let l = c.loop-k in
    let h : l.k ≡ suc (l.k - 1) = omega arith in
    rw (add-one (l.k - 1)) (rw h at l.invariant)

pub returns : goal.returns
unfolding substituted
returns c = let h : c.loop-k.k ≡ 0 = omega arith in rw h at c.loop-k.invariant

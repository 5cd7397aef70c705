-- `bessel::sphj::recur` meets its contract. The invariant: the steps that are left give what all give. Assumes nothing.
use Prim.Native.Nat.{suc, ◌-◌}
use mathlib.Core.Path.{◌≡◌, ◌∙◌}
use native.Mathlib.Omega.{arith}
use borrow.Author.Tests.{le-leb, lt-leb}
use Rattle.bessel.specs.Sphj.{steps_down}
use Rattle.bessel.proofs.Laws.{kept, passed}
use Rattle.bessel.proofs.sphj.recur.Goals as goal

pub loop-k-preserved-then-k-nm : goal.loop-k-preserved-then-k-nm
loop-k-preserved-then-k-nm c =
    let a = c.args in
    let l = c.loop-k in
    let h : l.k ≡ suc (l.k - 1) = omega arith in
    kept a.x a.nm (l.k - 1) l.f0 l.f1 l.sj (le-leb _ _ c.if-k-nm.true) ∙ rw h at l.invariant

pub loop-k-preserved : goal.loop-k-preserved
loop-k-preserved c =
    let a = c.args in
    let l = c.loop-k in
    let h : l.k ≡ suc (l.k - 1) = omega arith in
    passed a.x a.nm (l.k - 1) l.f0 l.f1 l.sj (lt-leb _ _ c.if-k-nm.false) ∙ rw h at l.invariant

pub returns : goal.returns
unfolding steps_down
returns c = let h : c.loop-k.k ≡ 0 = omega arith in rw h at c.loop-k.invariant

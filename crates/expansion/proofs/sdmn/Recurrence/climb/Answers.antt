-- `expansion::sdmn::Recurrence::climb` meets its contract. Assumes nothing.
use Prim.Native.Nat.{◌-◌, suc}
use mathlib.Core.Path.{◌≡◌, refl, ◌∙◌}
use native.Mathlib.Omega.{arith}
use native.Mathlib.Numerals.{add-one}
use Rattle.expansion.specs.Sdmn.{climbed}
use Rattle.expansion.specs.Inside.Recurrences.{defined}
use Rattle.expansion.proofs.Laws.{climb_on}
use Rattle.expansion.proofs.sdmn.Recurrence.climb.Goals as goal

pub loop-i-init : goal.loop-i-init
loop-i-init c = refl

pub loop-i-preserved : goal.loop-i-preserved
loop-i-preserved c =
    let a = c.args in
    let l = c.loop-i in
    let h : a.kb - l.i ≡ suc (a.kb - suc l.i) = omega arith in
    rw (add-one l.i)
    (climb_on (defined a.self) a.kb (a.kb - suc l.i) l.i l.f1 l.f2 c.above-f.result _ _ l.df _ _ c.above-f.ensures c.store_below.ensures c.reduce.ensures c.reduced-f1.ensures c.reduced-f2.ensures
    ∙ rw h at l.invariant)

pub returns : goal.returns
unfolding climbed
returns c = let h : c.args.kb - c.loop-i.i ≡ 0 = omega arith in rw h at c.loop-i.invariant

-- `segv::ends::Ends::first_below` meets its contract. The invariant: the uppers that are left give the answer. Assumes nothing.
use Prim.Native.Nat.{suc, ◌-◌, ◌+◌}
use mathlib.Core.Path.{◌≡◌, refl}
use native.Mathlib.Omega.{arith}
use Rattle.segv.specs.Families.{first_below}
use Rattle.segv.proofs.ends.Ends.first_below.Goals as goal

pub loop-i-init : goal.loop-i-init
loop-i-init c = refl

pub returns-then-self-i : goal.returns-then-self-i
unfolding first_below
returns-then-self-i c =
    let l = c.loop-i in
    let a = c.args in
    let h : a.places - l.i ≡ suc (a.places - (l.i + 1)) = omega arith in
    rw (← l.invariant, h, c.if-self-i.true)

pub loop-i-preserved : goal.loop-i-preserved
unfolding first_below
loop-i-preserved c =
    let l = c.loop-i in
    let a = c.args in
    let h : a.places - l.i ≡ suc (a.places - (l.i + 1)) = omega arith in
    rw (← l.invariant, h, c.if-self-i.false)

pub returns : goal.returns
unfolding first_below
returns c =
    let l = c.loop-i in
    let h : c.args.places - l.i ≡ 0 = omega arith in
    rw (← l.invariant, h)

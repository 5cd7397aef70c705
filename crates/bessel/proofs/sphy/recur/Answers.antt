-- `bessel::sphy::recur` meets its contract. The invariant: the orders that are left give what all give. Assumes nothing.
use Prim.Native.Nat.{suc, ◌-◌}
use mathlib.Core.Path.{◌≡◌, ◌∙◌}
use native.Mathlib.Omega.{arith}
use native.Mathlib.Numerals.{add-one}
use Rattle.bessel.specs.Sphy.{order_of, steps_up}
use Rattle.bessel.proofs.Upward.{ends, goes_on}
use Rattle.bessel.proofs.sphy.recur.Goals as goal

pub returns-then-abs : goal.returns-then-abs
unfolding order_of
returns-then-abs c =
    let n = c.args.n in
    let l = c.loop-k in
    let h : suc n - l.k ≡ suc (n - l.k) = omega arith in
    ends _ n (n - l.k) l.k l.f0 l.f1 l.sy _ c.abs.ensures c.if-abs.true ∙ rw h at l.invariant

pub loop-k-preserved : goal.loop-k-preserved
loop-k-preserved c =
    let n = c.args.n in
    let l = c.loop-k in
    let h : suc n - l.k ≡ suc (n - l.k) = omega arith in
    let h' : suc n - (suc l.k) ≡ n - l.k = omega arith in
    rw (add-one l.k, h') (goes_on _ n (n - l.k) l.k l.f0 l.f1 l.sy _ c.abs.ensures c.if-abs.false ∙ rw h at l.invariant)

pub returns : goal.returns
unfolding steps_up order_of
returns c =
    let l = c.loop-k in
    let h : suc c.args.n - l.k ≡ 0 = omega arith in
    rw h at l.invariant

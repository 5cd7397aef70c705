-- `angular::aswfa::aswfa_each` meets its contract. The invariant: the pairs of the first j arguments are in place. Assumes nothing.
use Prim.Native.Nat.{◌+◌, ◌*◌, ◌<◌}
use mathlib.Core.Path.{◌≡◌, refl, ap, ◌∙◌}
use native.Mathlib.Omega.{arith}
use lib.ListN.{length, length-set}
use lib.Seq.{take_all, lt-length-set}
use Rattle.angular.specs.Aswfa.{aswfa}
use Rattle.angular.specs.Inside.Turns.{in_turn}
use Rattle.angular.proofs.Laws.{aswfa_is, before_signs_same}
use Rattle.angular.proofs.Turns.{pair_put}
use Rattle.angular.proofs.aswfa.aswfa_each.Goals as goal

pub loop-j-init : goal.loop-j-init
unfolding in_turn
loop-j-init c = (refl, refl)

pub bounds-out-j-in-loop-j : goal.bounds-out-j-in-loop-j
bounds-out-j-in-loop-j c =
    let l = c.loop-j in
    let h : 2 * l.j + 1 < length l.out = omega (arith, c.requires.1, l.invariant.0) in
    lt-length-set l.out (2 * l.j) c.with_signs-p.result.value h

pub loop-j-preserved : goal.loop-j-preserved
loop-j-preserved c =
    let a = c.args in
    let l = c.loop-j in
    let s = c.with_signs-p.ensures in
    let before = c.before_signs in
    let nm2 = c.nm2_of-nm2 in
    let ck = c.coefficients-ck in
    let is =
    aswfa_is a.mode.m a.mode.n a.mode.c a.cv a.kd _ nm2.result _ _ before.result.value _ _ nm2.ensures.value c.sdmn-df.ensures c.abs.ensures
    (before.ensures.pair_value ∙ before_signs_same _ _ nm2.result (omega (arith, nm2.ensures.lower_bound)) ck.ensures a.mode.m _ _) s.0 s.1 in
    (simp length-set l.invariant.0, pair_put (aswfa a.mode.m a.mode.n a.mode.c a.cv a.kd) _ _ _ l.j _ _ (omega arith) c.requires.1 l.invariant.1 (ap (λ p. p.value) is) (ap (λ p. p.derivative) is))

pub returns : goal.returns
returns c =
    let a = c.args in
    let l = c.loop-j in
    let h : l.j ≡ length a.xs.now = omega arith in
    l.invariant.1 ∙ rw (h, take_all (length a.xs.now) a.xs.now (omega arith))

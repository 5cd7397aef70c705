-- `radial::gmn::sum` meets its contract. The invariant: what is left to add gives what the whole gives, and p is the power of x of the next term. Assumes nothing.
use Prim.Native.Nat.{◌+◌, ◌-◌, ◌*◌}
use mathlib.Core.Path.{◌≡◌, refl}
use native.Mathlib.Omega.{arith}
use native.Mathlib.Nat.{sub-zero}
use Rattle.arith.specs.Powers.{power}
use Rattle.radial.specs.Gmn.{sum_on}
use Rattle.radial.proofs.GmnLaws.{sum_stop, sum_on_lem, next_power}
use Rattle.radial.proofs.gmn.sum.Goals as goal

pub loop-j-init : goal.loop-j-init
unfolding power
loop-j-init g c = (refl, λ t h. rw (sub-zero c.args.last))

pub term-sum-requires : goal.term-sum-requires
term-sum-requires g c =
    let l = c.loop-j in
    let q : 2 * (l.j + 1) - 2 ≡ 2 * l.j = omega arith in
    rw (q, ← l.invariant.0) at (c.requires (l.j + 1) (omega arith) (omega arith))

pub returns-then-ends : goal.returns-then-ends
returns-then-ends g c = λ t h.
    let a = c.args in
    let l = c.loop-j in
    let q : 2 * (l.j + 1) - 2 ≡ 2 * l.j = omega arith in
    let r = h (l.j + 1) c.term-sum.result (omega arith) (omega arith) (rw (q, ← l.invariant.0) c.term-sum.ensures) in
    sum_stop t (a.last - (l.j + 1)) (l.j + 1) c.term-sum.result l.sum l.gw r (a.last - l.j) _ (omega arith) (l.invariant.1 t h) c.if-ends.ensures

pub loop-j-preserved : goal.loop-j-preserved
loop-j-preserved g c = (
  next_power c.args.x c.loop-j.p c.loop-j.j c.loop-j.invariant.0,
  λ t h.
      let a = c.args in
      let l = c.loop-j in
      let q : 2 * (l.j + 1) - 2 ≡ 2 * l.j = omega arith in
      let r = h (l.j + 1) c.term-sum.result (omega arith) (omega arith) (rw (q, ← l.invariant.0) c.term-sum.ensures) in
      sum_on_lem t (a.last - (l.j + 1)) (l.j + 1) c.term-sum.result l.sum l.gw r (a.last - l.j) _ (omega arith) (l.invariant.1 t h) c.if-ends.ensures,
)

pub returns : goal.returns
unfolding sum_on
returns g c = λ t h. let e : c.args.last - c.loop-j.j ≡ 0 = omega arith in rw e at (c.loop-j.invariant.1 t h)

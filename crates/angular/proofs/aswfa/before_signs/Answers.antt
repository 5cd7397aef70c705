-- `angular::aswfa::before_signs` meets its contract. Assumes nothing.
use Prim.Native.Nat.{◌-◌, ◌%◌}
use mathlib.Core.Path.{◌∙◌}
use native.Mathlib.Omega.{arith}
use Rattle.angular.specs.Aswfa as Aswfa
use Rattle.angular.proofs.Laws.{a0_is, both, at_one_same}
use Rattle.angular.proofs.aswfa.before_signs.Goals as goal

pub returns-then-x : goal.returns-then-x
unfolding Aswfa.before_signs
returns-then-x c = record { pair_value = rw (c.if-x.true, c.half_of_m-a0.ensures, a0_is c.args.mode.m _, c.su1_of-su1.ensures.su_value, c.power.ensures, c.parity.ensures.value, c.derivative_at_one.ensures); fact = λ e ys same more. rw (c.if-x.true, c.su1_of-su1.ensures.fact e ys same more, at_one_same c.args.ck.now ys c.args.nm2 c.args.mode.m ((c.args.mode.n - c.args.mode.m) % 2) (omega arith) same, c.half_of_m-a0.ensures, a0_is c.args.mode.m _, c.power.ensures, c.parity.ensures.value, c.derivative_at_one.ensures) }

pub returns : goal.returns
unfolding Aswfa.before_signs
returns c = record {
  pair_value = rw (c.if-x.false, c.derivative_inside-s1d.ensures.su_value, c.half_of_m-a0.ensures, a0_is c.args.mode.m _, c.su1_of-su1.ensures.su_value, c.power.ensures, c.parity.ensures.value);
  fact = λ e ys same more. let b = both _ _ e in
      rw (c.if-x.false, c.su1_of-su1.ensures.fact b.0 ys same more, ← (c.half_of_m-a0.ensures ∙ a0_is c.args.mode.m _), c.derivative_inside-s1d.ensures.fact b.1 ys same more, c.power.ensures, c.parity.ensures.value);
}

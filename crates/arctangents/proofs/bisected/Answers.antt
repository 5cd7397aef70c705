-- `arctangents::bisected` meets its contract. Assumes nothing.
use mathlib.Core.Path.{refl, sym, ap, ◌∙◌}
use Prim.Native.Nat.{ℕ, ◌-◌, ◌^◌, ◌≤◌, ◌<◌}
use native.Mathlib.Nat.{le_refl, lt_irrefl}
use native.Mathlib.Omega.{arith}
use lib.Dec.{leb→le}
use Rattle.arctangents.specs.declared.Bracket.{Bracket}
use Rattle.arctangents.specs.Inside.ArctangentValues.{bisected_from, bisected}
use Rattle.arctangents.proofs.Upto.{two_above}
use Rattle.arctangents.proofs.Turns.{turn, last}
use Rattle.arctangents.proofs.bisected.Goals as goal

pub loop-b-init : goal.loop-b-init
unfolding bisected
loop-b-init c = record {
  order = leb→le 1 (2 ^ 59) tt;
  upto = le_refl (2 ^ 59);
  bounds = record { from_below = λ a b v h. absurd (lt_irrefl 0 h); from_above = λ a b v n l. two_above a b n l };
  left = 2 ^ 59;
  enough = le_refl (2 ^ 59);
  rest = refl;
}

pub loop-b-preserved : goal.loop-b-preserved
loop-b-preserved c =
    let l = c.loop-b in
    let a = c.args in
    let h = c.halved-b.ensures.halved in
    record {
      order = h.order;
      upto = h.upto;
      bounds = h.bounds;
      left = l.invariant.left - 1;
      enough = fewer (l.b.up - l.b.low) (c.halved-b.result.up - c.halved-b.result.low) l.invariant.left h.closer l.invariant.enough;
      rest = ap (λ (b : Bracket). bisected_from a.x.m a.x.e (l.invariant.left - 1) b.low b.up) c.halved-b.ensures.value ∙ sym (turn a.x.m a.x.e l.invariant.left l.b.low l.b.up c.loop-b-test.true l.invariant.enough) ∙ l.invariant.rest;
    }
  where
    fewer : (w w' left : ℕ) → w' < w → w ≤ left → w' ≤ left - 1
    fewer w w' left h k = omega arith

pub returns : goal.returns
returns c =
    let l = c.loop-b in
    let a = c.args in
    record { found = record { up = l.b.up; order = l.invariant.order; near = c.loop-b-test.false; upto = l.invariant.upto; bounds = l.invariant.bounds }; value = sym (last a.x.m a.x.e l.invariant.left l.b.low l.b.up c.loop-b-test.false) ∙ l.invariant.rest }

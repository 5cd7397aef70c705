-- `segv::bisection::bisect` meets its contract. The invariant: what is left to do gives the whole answer, each step is counted, and the known counts are those at the midpoints to come. Assumes nothing.
use Rattle.segv.proofs.Laws as laws
use Rattle.segv.proofs.Ahead.{Known, none_known, three_known, count_known, known_after}
use Prim.Native.Nat.{◌+◌, ◌-◌, ◌<◌}
use mathlib.Core.Path.{◌≡◌, sym, ◌∙◌}
use native.Mathlib.Omega.{arith}
use Rattle.sturm.specs.Pivots.{negative_pivots}
use Rattle.segv.proofs.bisection.bisect.Goals as goal
use Rattle.segv.proofs.bisection.bisect.Goals.{then-known-eq0, else-known-eq0}

pub loop-step-init : goal.loop-step-init
loop-step-init c = let h : c.args.limits.allowance - 0 ≡ c.args.limits.allowance = omega arith in (omega arith, rw h, none_known _ _ _ _)

pub returns-then-converged : goal.returns-then-converged
returns-then-converged c =
    let l = c.loop-step in
    let h = c.with_midpoint-r in
    let m = laws.met _ _ _ _ _ (c.args.limits.allowance - l._step) (c.args.limits.allowance - (l._step + 1)) l.r h.result l.ends _ (omega arith) h.ensures c.converged.ensures c.if-converged.true in
    sym m ∙ l.invariant.1

pub overflow_sub-known : goal.overflow_sub-known
overflow_sub-known c = elim c.if-known-eq0.branch [ then-known-eq0 w ↦ omega arith | else-known-eq0 w ↦ omega arith ]

pub loop-step-preserved : goal.loop-step-preserved
loop-step-preserved c =
    let l = c.loop-step in
    let h = c.with_midpoint-r in
    let t = c.tightened-r in
    let o = c.tighten_others in
    let a = c.at_x-count in
    -- after the test of `known` the count of this step is known
    let k : (0 < c.if-known-eq0.known) × Known (negative_pivots c.args.matrix.now.d c.args.matrix.now.e c.args.matrix.now.entries) c.if-known-eq0.known l.r.lower l.r.upper c.if-known-eq0.counts =
    elim c.if-known-eq0.branch [
      | then-known-eq0 w ↦ (omega arith, rw (w.counts-is, w.known-is) (three_known _ l.r h.result _ h.ensures w.counts_ahead-counts.ensures))
      | else-known-eq0 w ↦ (omega arith, rw (w.counts-is, w.known-is) l.invariant.2)
    ] in
    let s = laws.steps_on _ _ l.r h.result t.result h.ensures t.ensures in
    let n = count_known _ _ l.r h.result _ h.ensures k.1 _ a.ensures k.0 in
    let m = laws.on _ _ _ _ _ (c.args.limits.allowance - l._step) (c.args.limits.allowance - (l._step + 1)) l.r h.result l.ends _ _ t.result _ (omega arith) h.ensures c.converged.ensures c.if-converged.false n t.ensures o.ensures in
    (omega (arith, s), sym m ∙ l.invariant.1, known_after _ _ l.r h.result _ h.ensures k.1 _ _ t.result _ a.ensures t.ensures c.counts_after-counts.ensures)

pub returns : goal.returns
returns c =
    let l = c.loop-step in
    let h : c.args.limits.allowance - l._step ≡ 0 = omega arith in
    sym (rw h (laws.out_of_steps _ _ _ _ _ _ _)) ∙ l.invariant.1

-- `angular::aswfa::in_stages` meets its contract. The invariant: the coefficients before the next are in place. Assumes nothing.
use Prim.Native.Nat.{◌%◌, ◌+◌, ◌-◌, ◌*◌, ◌/◌}
use mathlib.Core.Path.{◌≡◌, sym, ◌∙◌}
use native.Mathlib.Omega.{arith}
use Rattle.expansion.specs.Sums.{blank}
use Rattle.expansion.specs.Sckb.{sckb}
use Rattle.expansion.proofs.First.{stands_first, stands_agrees}
use Rattle.angular.proofs.Laws.{before_signs_same}
use Rattle.angular.proofs.aswfa.in_stages.Goals as goal

pub loop-count-init : goal.loop-count-init
unfolding blank
loop-count-init c = let s = c.start-at.ensures in (omega arith, omega arith, stands_first _ c.args.mode.m c.args.mode.n c.args.mode.c _ _ s.0 s.1 s.2 s.3 c.filled-ck.ensures)

pub go_on-at-requires : goal.go_on-at-requires
go_on-at-requires c = c.loop-count.invariant.2

pub returns-then-stage : goal.returns-then-stage
returns-then-stage c = let a = c.args in
    let l = c.loop-count in
    let g = c.go_on-at.ensures in
    let h : l.count - 1 + (a.nm2 - (l.count - 1)) ≡ a.nm2 = omega arith in
    sym (rw h at (c.before_signs-stage.ensures.fact c.if-stage.true (sckb a.df.now a.mode.m a.mode.n a.mode.c) (λ i q. stands_agrees _ a.mode.m a.mode.n a.mode.c c.go_on-at.result _ l.count g.stands_for (omega (arith, g.k_value)) i (omega arith)) (a.nm2 - (l.count - 1))))

pub loop-count-smaller : goal.loop-count-smaller
loop-count-smaller c = omega arith

pub loop-count-preserved : goal.loop-count-preserved
loop-count-preserved c = (omega arith, omega arith, c.go_on-at.ensures.stands_for)

pub go_on-requires : goal.go_on-requires
go_on-requires c = c.loop-count.invariant.2

pub returns : goal.returns
returns c = let a = c.args in
    let g = c.go_on.ensures in
    c.before_signs.ensures.pair_value
    ∙ before_signs_same _ (sckb a.df.now a.mode.m a.mode.n a.mode.c) a.nm2 c.requires.0 (λ i q. stands_agrees _ a.mode.m a.mode.n a.mode.c c.go_on.result _ (a.nm2 / 4 * 4 + 4) g.stands_for (omega (arith, g.k_value)) i (omega arith)) a.mode.m ((a.mode.n - a.mode.m) % 2) a.x

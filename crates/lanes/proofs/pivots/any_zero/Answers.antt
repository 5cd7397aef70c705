-- `lanes::pivots::any_zero` meets its contract. The invariant: where the flag is false, no pivot before the j-th is zero. Assumes nothing.
use mathlib.Core.Path.{◌≡◌}
use mathlib.Core.Bool.{false}
use native.Mathlib.Omega.{arith}
use lib.Ieee.{eq}
use Rattle.arith.specs.Double.{#0, at}
use Rattle.arith.proofs.Flags.{neither}
use Rattle.lanes.proofs.Laws.{one_more}
use Rattle.lanes.proofs.pivots.any_zero.Goals as goal

pub loop-j-init : goal.loop-j-init
loop-j-init c = λ h k l. absurd (omega arith)

pub loop-j-preserved : goal.loop-j-preserved
loop-j-preserved c =
    let s = c.args.s.now in
    let l = c.loop-j in
    λ h. let none = neither (eq (at s l.j) #0) l.zero h in one_more (λ k. eq (at s k) #0 ≡ false) l.j (l.invariant none.1) none.0

pub returns : goal.returns
returns c = λ h j less. c.loop-j.invariant h j (omega arith)

-- `joining::qstar::ap_of` meets its contract. The invariant: the places below i are there. Assumes nothing.
use Prim.Native.Nat.{◌+◌, ◌-◌}
use mathlib.Core.Path.{◌≡◌}
use native.Mathlib.Omega.{arith}
use Rattle.expansion.specs.Sums.{blank}
use Rattle.joining.specs.Qstar.{ap_up_to}
use Rattle.joining.proofs.Laws.{ap_on}
use Rattle.joining.proofs.qstar.ap_of.Goals as goal

pub loop-i-init : goal.loop-i-init
unfolding ap_up_to blank
loop-i-init c = rw c.filled-ap.ensures

pub loop-i-preserved : goal.loop-i-preserved
loop-i-preserved c =
    let l = c.loop-i in
    let h : l.i + 1 - 1 ≡ l.i = omega arith in
    rw h (ap_on c.args.ck.now l.ap c.inner_sums-sk.result l.i (l.i - 1) c.s_of-s.result (omega arith) l.invariant (λ q g. c.inner_sums-sk.ensures q (omega arith)) c.s_of-s.ensures)

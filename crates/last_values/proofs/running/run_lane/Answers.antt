-- `last_values::running::run_lane` meets its contract. The invariant: each lane comes to what it came to. Assumes nothing.
use native.Mathlib.Omega.{arith}
use Rattle.last_values.proofs.Each.{went_none, went_on}
use Rattle.last_values.proofs.Laws.{none_is}
use Rattle.last_values.proofs.running.run_lane.Goals as goal

pub loop-limits-init : goal.loop-limits-init
loop-limits-init c = went_none _ _ _ _ (omega arith) c.requires.1

pub pass-requires : goal.pass-requires
pass-requires c = c.loop-limits.invariant.inside

pub loop-limits-smaller : goal.loop-limits-smaller
loop-limits-smaller c = c.pass.ensures.by_index _ c.requires.0 (none_is _ c.loop-limits-test.ensures)

pub loop-limits-preserved : goal.loop-limits-preserved
loop-limits-preserved c = went_on _ _ _ _ _ _ c.loop-limits.invariant c.pass.ensures.went

pub returns : goal.returns
returns c = record { went = c.loop-limits.invariant; through = c.loop-limits-test.ensures }

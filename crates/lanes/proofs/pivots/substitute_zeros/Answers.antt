-- `lanes::pivots::substitute_zeros` meets its contract. Assumes nothing.
use native.Mathlib.Omega.{arith}
use Rattle.lanes.proofs.Laws.{no_zero}
use Rattle.lanes.proofs.pivots.substitute_zeros.Goals as goal

pub returns-else-any_zero : goal.returns-else-any_zero
returns-else-any_zero c = record { s_len = omega arith; by_index = λ j less. no_zero _ (c.any_zero.ensures c.if-any_zero.false j less) }

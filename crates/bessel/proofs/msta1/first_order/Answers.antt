-- `bessel::msta1::first_order` meets its contract. Assumes nothing.
use native.Mathlib.Omega.{arith}
use Rattle.arith.specs.Double.{◌⊗◌}
use Rattle.arith.proofs.Laws.{whole_most}
use Rattle.bessel.specs.Msta1.{#1·1, first_order}
use Rattle.bessel.proofs.msta1.first_order.Goals as goal

pub overflow_add-result : goal.overflow_add-result
overflow_add-result c = let h = whole_most (#1·1 ⊗ c.args.a0) in record { fits = rw c.whole_part.ensures (omega (arith, h)) }

pub returns : goal.returns
unfolding first_order
returns c = rw c.whole_part.ensures

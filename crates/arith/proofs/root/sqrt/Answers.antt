-- `arith::root::sqrt` meets its contract. The tests find which clause of `sqrt` applies (`proofs/root/Cases.antt`). Assumes nothing.
use lib.Ieee.{of_bits, div}
use Rattle.arith.proofs.root.Cases.{finite_above_zero, sqrt_infinite, sqrt_below_zero, sqrt_else}
use Rattle.arith.proofs.root.sqrt.Goals as goal

pub root_above_zero-requires : goal.root_above_zero-requires
unfolding of_bits div
root_above_zero-requires c = finite_above_zero c.args.x c.if-x.true c.if-x-2.true

pub returns-else-x-2 : goal.returns-else-x-2
unfolding of_bits div
returns-else-x-2 c = sqrt_infinite c.args.x c.if-x.true c.if-x-2.false

pub returns-then-x-3 : goal.returns-then-x-3
unfolding of_bits div
returns-then-x-3 c = sqrt_below_zero c.args.x c.if-x-3.true

pub returns-else-x-3 : goal.returns-else-x-3
unfolding of_bits
returns-else-x-3 c = sqrt_else c.args.x c.if-x.false c.if-x-3.false

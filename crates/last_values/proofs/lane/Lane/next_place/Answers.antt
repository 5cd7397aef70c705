-- `last_values::lane::Lane::next_place` meets its contract. Assumes nothing.
use borrow.Author.Tests.{eq-eqb, ne_eqb}
use native.Mathlib.Omega.{arith}
use Rattle.last_values.proofs.lane.Lane.next_place.Goals as goal

pub returns-then-p-limits : goal.returns-then-p-limits
returns-then-p-limits c = rw (eq-eqb _ _ c.if-p-limits.true)

pub start-requires : goal.start-requires
start-requires c = let h = c.if-p-limits.false in omega arith

pub returns : goal.returns
returns c = rw (ne_eqb _ _ c.if-p-limits.false) c.start.ensures

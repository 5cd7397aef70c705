-- `lanes::entries::entry_or_infinity` meets its contract. Assumes nothing.
use borrow.Author.Tests.{lt-ltb, le-ltb}
use lib.Ieee.{div, of_bits}
use Rattle.lanes.proofs.entries.entry_or_infinity.Goals as goal

pub returns-then-i-matrix : goal.returns-then-i-matrix
returns-then-i-matrix c = rw (lt-ltb _ _ c.if-i-matrix.true)

pub returns : goal.returns
unfolding div of_bits
returns c = rw (le-ltb _ _ c.if-i-matrix.false)

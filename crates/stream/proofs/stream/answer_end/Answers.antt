-- `stream::stream::answer_end` meets its contract. Assumes nothing.
use native.Mathlib.Omega.{arith}
use borrow.Author.Tests.{le-leb, lt-leb}
use Rattle.records.proofs.Laws.{put_nothing}
use Rattle.stream.proofs.stream.answer_end.Goals as goal

pub returns-then-input-at : goal.returns-then-input-at
returns-then-input-at c = rw (le-leb _ _ c.if-input-at.true) (put_nothing _ 0 (omega arith))

pub returns : goal.returns
returns c = rw (lt-leb _ _ c.if-input-at.false) (rw c.number.ensures at c.r_line.ensures.put)

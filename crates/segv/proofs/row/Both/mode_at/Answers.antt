-- `segv::row::Both::mode_at` meets its contract. Assumes nothing.
use borrow.Author.Tests.{eq-eqb, ne_eqb}
use Rattle.segv.specs.Row.{mode_at}
use Rattle.segv.proofs.row.Both.mode_at.Goals as goal

pub returns-then-j-eq0 : goal.returns-then-j-eq0
unfolding mode_at
returns-then-j-eq0 c = rw (eq-eqb _ _ c.if-j-eq0.true)

pub returns : goal.returns
unfolding mode_at
returns c = rw (ne_eqb _ _ c.if-j-eq0.false)

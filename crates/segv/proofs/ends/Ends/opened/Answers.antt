-- `segv::ends::Ends::opened` meets its contract. Assumes nothing.
use Rattle.segv.specs.Families.{opened_at, raised}
use borrow.Author.Tests.{ne_eqb}
use Rattle.segv.proofs.ends.Ends.opened.Goals as goal

pub returns-then-p-eq0 : goal.returns-then-p-eq0
unfolding opened_at raised
returns-then-p-eq0 c = rw (c.between.ensures, c.first_below-upper.ensures, c.if-p-eq0.true)

pub returns : goal.returns
unfolding opened_at raised
returns c = rw (c.between-2.ensures, c.greater.ensures, c.first_below-upper.ensures, ne_eqb _ _ c.if-p-eq0.false)

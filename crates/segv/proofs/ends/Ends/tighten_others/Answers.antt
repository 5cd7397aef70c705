-- `segv::ends::Ends::tighten_others` meets its contract. Assumes nothing.
use borrow.Author.Tests.{le-leb, lt-leb}
use Rattle.segv.specs.Bisection.{tighten_others, tighten_counted}
use Rattle.segv.proofs.ends.Ends.tighten_others.Goals as goal

pub returns-then-negative-place : goal.returns-then-negative-place
unfolding tighten_others
returns-then-negative-place c = rw (lt-leb _ _ c.if-negative-place.true)

pub returns-then-places-negative : goal.returns-then-places-negative
unfolding tighten_others tighten_counted
returns-then-places-negative c = rw (le-leb _ _ c.if-negative-place.false, le-leb _ _ c.if-places-negative.true)

pub returns : goal.returns
unfolding tighten_others tighten_counted
returns c = rw (le-leb _ _ c.if-negative-place.false, lt-leb _ _ c.if-places-negative.false, c.lesser-dropped.ensures, c.greater-raised.ensures)

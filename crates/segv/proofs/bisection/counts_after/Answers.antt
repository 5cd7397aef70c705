-- `segv::bisection::counts_after` meets its contract. Assumes nothing.
use borrow.Author.Tests.{lt-ltb, le-ltb}
use Rattle.segv.proofs.bisection.counts_after.Goals as goal

pub returns-then-counts-place : goal.returns-then-counts-place
returns-then-counts-place c = rw (c.upper_half.ensures, c.upper_half-then-counts-place.ensures, lt-ltb _ _ c.if-counts-place.true)

pub returns : goal.returns
returns c = rw (c.lower_half.ensures, c.lower_half-2.ensures, le-ltb _ _ c.if-counts-place.false)

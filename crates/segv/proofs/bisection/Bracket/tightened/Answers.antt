-- `segv::bisection::Bracket::tightened` meets its contract. Assumes nothing.
use borrow.Author.Tests.{lt-ltb, le-ltb}
use Rattle.segv.specs.Bisection.{tighten}
use Rattle.segv.proofs.bisection.Bracket.tightened.Goals as goal

pub returns-then-count-place : goal.returns-then-count-place
unfolding tighten
returns-then-count-place c = rw (lt-ltb _ _ c.if-count-place.true)

pub returns : goal.returns
unfolding tighten
returns c = rw (le-ltb _ _ c.if-count-place.false)

-- `segv::bisection::Bracket::converged` meets its contract. Assumes nothing.
use Rattle.segv.specs.Bisection.{converged}
use Rattle.segv.proofs.bisection.Bracket.converged.Goals as goal

pub returns : goal.returns
unfolding converged
returns c = rw c.abs.ensures

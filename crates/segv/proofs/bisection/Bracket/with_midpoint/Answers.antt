-- `segv::bisection::Bracket::with_midpoint` meets its contract. Assumes nothing.
use mathlib.Core.Path.{refl}
use Rattle.segv.specs.Bisection.{with_midpoint}
use Rattle.segv.proofs.bisection.Bracket.with_midpoint.Goals as goal

pub returns : goal.returns
unfolding with_midpoint
returns c = refl

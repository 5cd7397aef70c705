-- `radial_sums::limits::second_terms` meets its contract. Assumes nothing.
use native.Mathlib.Omega.{arith}
use Rattle.radial_sums.specs.Limits.{second_terms}
use Rattle.radial_sums.proofs.limits.second_terms.Goals as goal

pub returns : goal.returns
unfolding second_terms
returns c = let few = c.cut.ensures.upper_bound in record { value = rw c.cut.ensures.value; upper_bound = omega (arith, few) }

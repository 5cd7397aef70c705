-- `fixed::high` meets its contract. Assumes nothing.
use mathlib.Core.Path.{refl}
use native.Mathlib.Omega.{arith}
use Rattle.circle.specs.Inside.FixedValues.{high}
use Rattle.circle.proofs.Halves.{is_upper, small, Small}
use Rattle.circle.proofs.fixed.high.Goals as goal
use Rattle.circle.proofs.fixed.high.Goals.{Start}

fits : (c : Start) → Small c.args.a c.args.b
fits c = small c.args.a c.args.b c.requires.0 c.requires.1

pub overflow_mul-result-2 : goal.overflow_mul-result-2
overflow_mul-result-2 c = omega (arith, fits c)

pub overflow_add-result : goal.overflow_add-result
overflow_add-result c = omega (arith, fits c)

pub overflow_add-result-2 : goal.overflow_add-result-2
overflow_add-result-2 c = omega (arith, fits c)

pub returns : goal.returns
unfolding high
returns c = record { high = is_upper c.args.a c.args.b; value = refl }

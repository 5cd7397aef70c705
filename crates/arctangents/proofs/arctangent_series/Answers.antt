-- `arctangents::arctangent_series` meets its contract. Assumes nothing.
use mathlib.Core.Path.{refl}
use lib.Ieee.{of_bits, of_int}
use Rattle.arctangents.specs.Inside.ArctangentValues as ArctangentValues
use Rattle.arctangents.proofs.arctangent_series.Goals as goal

pub returns : goal.returns
unfolding of_bits of_int ArctangentValues.arctangent_series
returns c = refl

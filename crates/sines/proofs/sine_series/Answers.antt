-- `sines::sine_series` meets its contract. Assumes nothing.
use mathlib.Core.Path.{refl}
use lib.Ieee.{of_bits, of_int}
use Rattle.sines.specs.Inside.SineValues as SineValues
use Rattle.sines.proofs.sine_series.Goals as goal

pub returns : goal.returns
unfolding of_bits of_int SineValues.sine_series
returns c = refl

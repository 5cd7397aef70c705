-- `sines::cosine_series` meets its contract. Assumes nothing.
use mathlib.Core.Path.{refl}
use lib.Ieee.{of_bits, of_int}
use Rattle.sines.specs.Inside.SineValues as SineValues
use Rattle.sines.proofs.cosine_series.Goals as goal

pub returns : goal.returns
unfolding of_bits of_int SineValues.cosine_series
returns c = refl

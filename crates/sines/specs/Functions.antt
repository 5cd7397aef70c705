-- Sine and cosine as functions: what the code gives, bit for bit. Each contract says two things of every double x: that the answer is this function's, and that it lies where `Sine` and `Cosine` say.
-- A reader needs only the latter. That they are functions, the same for every caller, is what definitions in the crates above stand on. How they are computed stands in `Inside`. Definitions only.
use Rattle.std.specs.Prelude.{Float}
use Rattle.sines.specs.Inside.SineValues as SineValues

abbrev pub sine : Float → Float
sine x = SineValues.sine x

abbrev pub cosine : Float → Float
cosine x = SineValues.cosine x

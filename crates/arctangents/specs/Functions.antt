-- The arctangent as a function: what the code gives, bit for bit. The contract says two things of every double x: that the answer is this function's, and that it lies where `Arctangent` says.
-- A reader needs only the latter. That it is a function, the same for every caller, is what definitions in the crates above stand on. How it is computed stands in `Inside`. Definitions only.
use Rattle.std.specs.Prelude.{Float}
use Rattle.arctangents.specs.Inside.ArctangentValues as ArctangentValues

abbrev pub arctangent : Float → Float
arctangent x = ArctangentValues.arctangent x

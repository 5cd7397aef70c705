-- `arctangents::beside` meets its contract. Assumes nothing.
use Rattle.arctangents.specs.Inside.ArctangentValues as ArctangentValues
use Rattle.arctangents.proofs.beside.Goals as goal

pub returns : goal.returns
unfolding ArctangentValues.beside
returns c = rw c.arctangent_series.ensures

-- `joining::kmn::kmn` meets its contract. Assumes nothing.
use Rattle.joining.specs.Kmn as Kmn
use Rattle.joining.proofs.kmn.kmn.Goals as goal

pub returns : goal.returns
unfolding Kmn.kmn
returns c = rw (c.sa0_of.ensures, c.expansion_sum-su0.ensures, c.terms.ensures.value, c.parity-ip.ensures.value, c.offset-half.ensures.value)

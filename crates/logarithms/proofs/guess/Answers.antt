-- `logarithms::guess` meets its contract. Assumes nothing.
use Rattle.logarithms.specs.Inside.LogarithmValues.{guess_of, guess}
use Rattle.logarithms.proofs.guess.Goals as goal
use Rattle.logarithms.proofs.guess.Goals.{then-f, else-f}

pub returns : goal.returns
unfolding guess guess_of
returns c = elim c.if-f.branch [ then-f w ↦ rw (w.f-is, w.n-is, w.if-f.true) | else-f w ↦ rw (w.f-is, w.n-is, w.if-f.false) ]

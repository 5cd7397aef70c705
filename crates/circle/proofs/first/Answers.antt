-- `circle::first` meets its contract. Assumes nothing.
use Rattle.circle.specs.Inside.CircleValues as CircleValues
use Rattle.circle.proofs.Opening.{first_is}
use Rattle.circle.proofs.first.Goals as goal

pub returns : goal.returns
unfolding CircleValues.first
returns c = record { first = first_is c.args.y c.high-q.result c.cosine_sum-c.result c.sine_sum.result c.high-s.result c.requires c.high-q.ensures.high c.cosine_sum-c.ensures.cosine_sum c.sine_sum.ensures.alternating c.high-s.ensures.high; value = rw (c.high-s.ensures.value, c.sine_sum.ensures.value, c.cosine_sum-c.ensures.value, c.high-q.ensures.value) }

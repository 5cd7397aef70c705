-- `small::Small::cosine` meets its contract. Assumes nothing.
use lib.Ieee.Positive.{num, den, den_pos}
use Rattle.sines.specs.Inside.SmallValues as SmallValues
use Rattle.sines.proofs.small.Low.{cosine_low}
use Rattle.sines.proofs.small.Small.cosine.Goals as goal

pub returns : goal.returns
unfolding SmallValues.low_cosine
returns c =
    let x = c.args.self.x in
    let s = c.split in
    let q = c.square in
    let t = c.even_sum-g in
    record { cosine = λ n l. cosine_low c.tested.result (num x) (den x) q.result t.result n (den_pos x) s.ensures.split.below (q.ensures.square.near (num x) (den x) s.ensures.split.value) t.ensures.alternating l c.tested.ensures.lies; value = rw (c.tested.ensures.value, t.ensures.value, q.ensures.value, ← s.ensures.value) }

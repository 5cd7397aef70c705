-- `small::Small::sine` meets its contract. Assumes nothing.
use native.Mathlib.Nat.{le_of_lt}
use lib.Ieee.Positive.{num, den, den_pos}
use Rattle.sines.specs.Inside.SmallValues as SmallValues
use Rattle.sines.proofs.small.Low.{sine_low, narrower}
use Rattle.sines.proofs.small.Small.sine.Goals as goal
use Rattle.sines.proofs.small.Small.sine.Goals.{After-high}

pub returns : goal.returns
unfolding SmallValues.low_sine
returns c =
    let x = c.args.self.x in
    let s = c.split-p in
    let q = c.square in
    let t = c.odd_sum-g in
    let h = c.high in record {
      sine = λ n l.
          let w = sine_low c.tested_share.result (num x) (den x) q.result s.result.m s.result.k t.result h.result n (den_pos x) s.ensures.split (q.ensures.square.near (num x) (den x) s.ensures.split.value) t.ensures.alternating h.ensures.high l c.tested_share.ensures.lies in
          (narrower c.tested_share.result _ _ _ (num x) (den x) (den_pos x) (le_of_lt s.ensures.split.below) w, w);
      value = rw (c.tested_share.ensures.value, h.ensures.value, t.ensures.value, q.ensures.value, ← s.ensures.value);
    }

-- `sines::Far::sine` meets its contract. Assumes nothing.
use mathlib.Core.Path.{sym}
use native.Mathlib.Nat.{le_trans, le_of_eq, mul-le-mul_right, le-suc}
use lib.Ieee.Positive.{num, den, den_pos}
use Rattle.circle.specs.Series.{north, south, part, term}
use Rattle.sines.specs.Inside.SineValues as SineValues
use Rattle.circle.proofs.Follows.{whole_circle}
use Rattle.sines.proofs.Doubles.{within_of, wider}
use Rattle.sines.proofs.Range.{positive_of, at_least, at_most}
use Rattle.sines.proofs.Far.sine.Goals as goal

pub returns : goal.returns
unfolding SineValues.far_sine
returns c =
    let s = c.before in
    let x = s.args.self.x in
    let y = c.scaled.result in
    let p = c.circle-p.result in record {
      sine = λ n l.
          let w = within_of c.tested.result p.s (part (term (num x) (den x) n) n north) (part (term (num x) (den x) n) n south) (term (num x) (den x) n 0) p.sn c.tested.ensures.lies
          (whole_circle y p.cn p.c p.sn p.s c.circle-p.ensures.circle (num x) (den x) n (den_pos x) (at_most x s.args.self.most (positive_of x s.args.self.least s.args.self.most)) (le_of_eq c.scaled.ensures.exact.1) (le_trans (le_of_eq (sym c.scaled.ensures.exact.1)) (mul-le-mul_right (den x) (le-suc y))) l).sine in
          (w, wider c.tested.result (part (term (num x) (den x) n) n north) (part (term (num x) (den x) n) n south) (term (num x) (den x) n 0) (num x) (den x) (at_least x s.args.self.least (positive_of x s.args.self.least s.args.self.most)) w);
      value = rw (c.tested.ensures.value, c.guess.ensures, c.circle-p.ensures.value, c.scaled.ensures.value);
    }

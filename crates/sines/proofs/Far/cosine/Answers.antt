-- `sines::Far::cosine` meets its contract. Assumes nothing.
use mathlib.Core.Path.{sym}
use native.Mathlib.Nat.{le_trans, le_of_eq, mul-le-mul_right, le-suc}
use lib.Ieee.Positive.{num, den, den_pos}
use Rattle.circle.specs.Series.{east, west, part, term}
use Rattle.sines.specs.Inside.SineValues as SineValues
use Rattle.circle.proofs.Follows.{whole_circle}
use Rattle.sines.proofs.Doubles.{within_of}
use Rattle.sines.proofs.Range.{positive_of, at_most}
use Rattle.sines.proofs.Far.cosine.Goals as goal

pub returns : goal.returns
unfolding SineValues.far_cosine
returns c =
    let s = c.before in
    let x = s.args.self.x in
    let y = c.scaled.result in
    let p = c.circle-p.result in record {
      cosine = λ n l.
          within_of c.tested.result p.c (part (term (num x) (den x) n) n east) (part (term (num x) (den x) n) n west) (term (num x) (den x) n 0) p.cn c.tested.ensures.lies
          (whole_circle y p.cn p.c p.sn p.s c.circle-p.ensures.circle (num x) (den x) n (den_pos x) (at_most x s.args.self.most (positive_of x s.args.self.least s.args.self.most)) (le_of_eq c.scaled.ensures.exact.1) (le_trans (le_of_eq (sym c.scaled.ensures.exact.1)) (mul-le-mul_right (den x) (le-suc y))) l).cosine;
      value = rw (c.tested.ensures.value, c.guess.ensures, c.circle-p.ensures.value, c.scaled.ensures.value);
    }

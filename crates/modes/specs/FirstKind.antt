-- The first oblate radial function of a mode at x, on the disc and off it (Card 2, operation 8). Definitions only.
use Rattle.std.specs.Prelude.{cond, eqb, Float, Option, Some, None}
use Rattle.expansion.specs.declared.values.Pair as values
use Rattle.radial.specs.Rswfo.{first_kind}
use Rattle.requests.specs.Answers.{Answer, Pair, Refused}
use Rattle.requests.specs.declared.checking.Mode.{Mode}
use Rattle.modes.specs.Radial.{radial_refusal}

-- ---- 12: a trial order of the Bessel functions is out of range
unfoldable pub pair_or_refusal : Option values.Pair → Answer
pair_or_refusal (Some p) = Pair p.value p.derivative
pair_or_refusal None = Refused 12

-- the refusal's number, the same as of both kinds, or `rswfo` with kf = 1
unfoldable pub first_of : Mode → Float → Float → Answer
first_of mode cv x =
    let k = radial_refusal mode cv x in
    let r = first_kind mode.m mode.n mode.c cv x in
    cond (eqb k 0) (pair_or_refusal r) (Refused k)

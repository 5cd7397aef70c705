-- The angular pair of a mode. Definitions only.
use Rattle.std.specs.Prelude.{ℕ, Bool, true, cond, eqb, Float}
use Rattle.std.specs.Float.{nan, inf, fin}
use Rattle.std.specs.Float.Ieee.{lt}
use Rattle.arith.specs.Double.{#1}
use Rattle.arith.specs.Choice.{abs}
use Rattle.expansion.specs.declared.values.Pair as values
use Rattle.angular.specs.Aswfa.{aswfa}
use Rattle.requests.specs.Answers.{Answer, Pair, Refused}
use Rattle.requests.specs.declared.checking.Kind.{Kind}
use Rattle.requests.specs.declared.checking.Mode.{Mode}
use Rattle.requests.specs.Refusals.{sign_of, mode_refusal, not_finite}

-- ---- 8: x is NaN or |x| > 1
unfoldable pub outside : Float → Bool
outside nan = true
outside (inf s) = lt #1 (abs (inf s))
outside (fin s m e) = lt #1 (abs (fin s m e))

-- the first of 4, 5, 6, 7 and 8 that applies, or 0 for none
unfoldable pub angular_refusal : Mode → Float → Float → ℕ
angular_refusal mode cv x = cond (eqb (mode_refusal mode) 0) (cond (not_finite cv) 7 (cond (outside x) 8 0)) (mode_refusal mode)

-- `aswfa` with the kind's sign
unfoldable pub angular_pair : Kind → Mode → Float → Float → values.Pair
angular_pair kind mode cv x = aswfa mode.m mode.n mode.c cv (sign_of kind) x

-- the refusal's number, or the pair
unfoldable pub angular_of : Kind → Mode → Float → Float → Answer
angular_of kind mode cv x =
    let k = angular_refusal mode cv x in
    let p = angular_pair kind mode cv x in
    cond (eqb k 0) (Pair p.value p.derivative) (Refused k)

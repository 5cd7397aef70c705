-- The oblate radial functions of a mode at x, on the disc and off it (operation 5). Definitions only.
use Rattle.std.specs.Prelude.{ℕ, cond, eqb, Float, Option, Some, None, Result, Ok, Err}
use Rattle.radial.specs.declared.rswfo.Radial.{Radial}
use Rattle.radial.specs.Rswfo.{rswfo}
use Rattle.requests.specs.declared.checking.Mode.{Mode}
use Rattle.requests.specs.declared.refusals.Refusal.{Refusal}
use Rattle.requests.specs.Answers.{Answer, Quadruple, Refused, number_of}
use Rattle.requests.specs.Refusals.{no_parameter, radial_mode_refusal, too_far}

-- ---- 8: x is NaN, infinite or below zero, which −0 isn't. It is what 5 asks of c: `no_parameter`

-- the first of 4, 5, 6, 7, 8 and 11 that applies, or 0 for none: for both kinds and for the first alone
unfoldable pub radial_refusal : Mode → Float → Float → ℕ
radial_refusal mode cv x = let k = radial_mode_refusal mode cv in cond (eqb k 0) (cond (no_parameter x) 8 (cond (too_far mode x) 11 0)) k

-- what a caller is answered
abbrev pub quadruple_answer : Result Radial Refusal → Answer
quadruple_answer (Ok r) = Quadruple r.first.value r.first.derivative r.second.value r.second.derivative
quadruple_answer (Err refusal) = Refused (number_of refusal)

-- ---- 12: a trial order of the Bessel functions is out of range
unfoldable pub quadruple_or_refusal : Option Radial → Answer
quadruple_or_refusal (Some r) = Quadruple r.first.value r.first.derivative r.second.value r.second.derivative
quadruple_or_refusal None = Refused 12

-- the refusal's number, or `rswfo` with kf = 3
unfoldable pub radial_of : Mode → Float → Float → Answer
radial_of mode cv x =
    let k = radial_refusal mode cv x in
    let r = rswfo mode.m mode.n mode.c cv x in
    cond (eqb k 0) (quadruple_or_refusal r) (Refused k)

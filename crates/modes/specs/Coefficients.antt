-- The expansion coefficients of a mode. Definition only.
use Rattle.std.specs.Prelude.{cond, List, ◌++◌, eqb, ltb, Float, length, drop}
use Rattle.expansion.specs.Sdmn.{sdmn}
use Rattle.segv.specs.Row.{Numbered, answer}
use Rattle.requests.specs.declared.checking.Kind.{Kind}
use Rattle.requests.specs.declared.checking.Mode.{Mode}
use Rattle.requests.specs.Refusals.{sign_of, mode_refusal, not_finite}

-- refused 4, 5, 6, 7 or 9 (the slice has fewer than 200 places), the slice stays as it was; else the coefficients are in its first 200 places
unfoldable pub coefficients_of : Kind → Mode → Float → List Float → Numbered (List Float)
coefficients_of kind x cv xs =
    let r = cond (not_finite cv) (answer 7 xs) (cond (ltb (length xs) 200) (answer 9 xs) (answer 0 (sdmn x.m x.n x.c cv (sign_of kind) ++ drop 200 xs))) in
    cond (eqb (mode_refusal x) 0) r (answer (mode_refusal x) xs)

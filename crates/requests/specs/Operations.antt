-- The operations of a record. Definition only.
use Rattle.std.specs.Prelude.{ℕ, cond, eqb, Result, Ok, Err}
use Rattle.requests.specs.declared.checking.Kind.TheVariants.{Prolate, Oblate}
use Rattle.requests.specs.declared.operations.Operation.{Operation}
use Rattle.requests.specs.declared.operations.Operation.TheVariants.{Row, Angular, Radial, DlmfRow, FirstKind}
use Rattle.requests.specs.declared.refusals.Refusal.{Refusal}
use Rattle.requests.specs.declared.refusals.Refusal.TheVariants.{UnknownOperation}

-- 1 prolate row, 2 oblate row, 3 prolate angular, 4 oblate angular, 5 oblate radial, 6 and 7 the prolate and oblate rows in DLMF's form, 8 oblate radial of the first kind; any other is refused 3
unfoldable pub operation_of : ℕ → Result Operation Refusal
operation_of k =
    cond (eqb k 1) (Ok (Row Prolate))
    (cond (eqb k 2) (Ok (Row Oblate))
    (cond (eqb k 3) (Ok (Angular Prolate))
    (cond (eqb k 4) (Ok (Angular Oblate))
    (cond (eqb k 5) (Ok Radial)
    (cond (eqb k 6) (Ok (DlmfRow Prolate))
    (cond (eqb k 7) (Ok (DlmfRow Oblate))
    (cond (eqb k 8) (Ok FirstKind)
    (Err UnknownOperation))))))))

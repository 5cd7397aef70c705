-- `sheets::sheets::sheet` meets its contract. Each return is one case of the definition. Assumes nothing.
use mathlib.Core.Path.{refl, sym, ap, ◌∙◌}
use native.Mathlib.Omega.{arith}
use Rattle.std.proofs.lemmas.Result.{err_from_is_err_and}
use Rattle.requests.specs.Answers.{code}
use Rattle.requests.proofs.Laws.{some_number}
use Rattle.sheets.specs.Sheet.{cv_for}
use Rattle.sheets.proofs.Laws as laws
use Rattle.sheets.proofs.sheets.sheet.Goals as goal

pub returns-in_err-lists_refusal : goal.returns-in_err-lists_refusal
returns-in_err-lists_refusal c =
    let p = err_from_is_err_and c.from_residual.result c.from_residual.ensures.1 in
    rw (p.1, p.2) (laws.sheet_early _ _ _ _ _ _ _ _ c.in_err-lists_refusal.ensures (some_number _))

pub returns-then-xs-eq0 : goal.returns-then-xs-eq0
returns-then-xs-eq0 c = laws.sheet_empty _ _ _ _ _ _ _ _ c.in_ok-lists_refusal.ensures refl (omega arith)

pub invariant_of-rows : goal.invariant_of-rows
invariant_of-rows c = let p = laws.passed _ _ _ _ _ (sym c.in_ok-lists_refusal.ensures) in record { in_range = p.order }

pub characteristic_values-found-requires : goal.characteristic_values-found-requires
characteristic_values-found-requires c = let p = laws.passed _ _ _ _ _ (sym c.in_ok-lists_refusal.ensures) in p.few

pub returns-in_err-found : goal.returns-in_err-found
returns-in_err-found c =
    let p = err_from_is_err_and c.from_residual-in_err-found.result c.from_residual-in_err-found.ensures.1 in
    rw (p.1, p.2) (laws.sheet_refused _ _ _ _ _ _ _ _ c.in_ok-lists_refusal.ensures refl c.if-xs-eq0.false _ (sym (ap (code {A = Unit}) c.in_err-found.was) ∙ c.characteristic_values-found.ensures.refused) (some_number _))

pub fill-requires : goal.fill-requires
fill-requires c = sym c.in_ok-lists_refusal.ensures

pub returns : goal.returns
returns c =
    let a = c.args in
    let values = c.characteristic_values-found.ensures in
    let zero = ap (code {A = Unit}) c.in_ok-found.was in
    laws.sheet_done a.kind a.m a.n a.allowance _ _ _ _ c.in_ok-lists_refusal.ensures refl c.if-xs-eq0.false _ values.refused _ zero
    (c.fill.ensures (cv_for a.kind a.m a.n a.allowance) (values.values zero))

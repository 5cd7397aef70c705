-- `sheets::checking::parameters_refusal` meets its contract. The invariant: no parameter before the next is refused. Assumes nothing.
use mathlib.Core.Path.{refl, sym, ◌∙◌}
use native.Mathlib.Omega.{arith}
use Rattle.std.proofs.lemmas.Result.{err_from_is_err_and}
use Rattle.requests.proofs.Laws.{some_number}
use Rattle.sheets.proofs.Laws as laws
use Rattle.sheets.proofs.checking.parameters_refusal.Goals as goal
use Rattle.sheets.proofs.checking.parameters_refusal.Invariants.{refusal}

pub loop-c-init : goal.loop-c-init
loop-c-init c = refl

pub returns-in_err-usable : goal.returns-in_err-usable
returns-in_err-usable c =
    let a = c.args in
    let l = c.loop-c in
    let p = err_from_is_err_and c.from_residual.result c.from_residual.ensures.1 in
    rw (p.1, p.2) (laws.first_stop (refusal a.m a.n) _ l.c-index _ (omega arith) c.in_err-usable.ensures.refused (some_number _) ∙ sym l.invariant)

pub loop-c-preserved : goal.loop-c-preserved
loop-c-preserved c =
    let a = c.args in
    let l = c.loop-c in
    l.invariant ∙ laws.first_later (refusal a.m a.n) _ l.c-index (omega arith) (sym c.in_ok-usable.ensures.refused)

pub returns : goal.returns
returns c =
    let a = c.args in
    let l = c.loop-c in
    laws.first_end (refusal a.m a.n) _ l.c-index (omega arith) ∙ sym l.invariant

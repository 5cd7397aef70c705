-- `sheets::parameters::Rows::characteristic_values` meets its contract. The invariant: no row before the i-th is refused, and their values are in place. Assumes nothing.
use mathlib.Core.Path.{refl, sym, ◌∙◌}
use native.Mathlib.Omega.{arith}
use Rattle.std.proofs.lemmas.Result.{err_from_is_err_and}
use Rattle.requests.proofs.Laws.{some_number}
use Rattle.sheets.specs.Sheet.{row_refusal_for, cv_for}
use Rattle.sheets.proofs.Laws as laws
use Rattle.sheets.proofs.Rows.{later_some, values_put}
use Rattle.sheets.proofs.parameters.Rows.characteristic_values.Goals as goal

pub loop-i-init : goal.loop-i-init
loop-i-init c = (omega arith, refl, λ j l. absurd (omega arith))

pub returns-in_err-found : goal.returns-in_err-found
returns-in_err-found c =
    let l = c.loop-i in
    let p = err_from_is_err_and c.from_residual.result c.from_residual.ensures.1 in
    let n = some_number c.in_err-found.field-0.0 in
    rw (p.1, p.2) (record { refused = c.in_err-found.ensures.refused n ∙ sym l.invariant.1; values = λ z. absurd (n z) })

pub put-requires : goal.put-requires
put-requires c =
    let r = c.in_ok-found.ensures.given in
    let w = r.within in
    (r.few, omega arith)

pub overflow_add-i : goal.overflow_add-i
overflow_add-i c = let w = c.in_ok-found.ensures.given.within in omega arith

pub loop-i-smaller : goal.loop-i-smaller
loop-i-smaller c = let r = c.in_ok-found.ensures.given in let w = r.within in let s = r.some in omega arith

pub loop-i-preserved : goal.loop-i-preserved
loop-i-preserved c =
    let a = c.args in
    let l = c.loop-i in
    let r = c.in_ok-found.ensures.given in (
      r.within,
      l.invariant.1 ∙ later_some (row_refusal_for a.self.kind a.self.m a.self.n a.self.allowance) _ _ l.i r.within (λ q less. (r.given q less).0),
      values_put (cv_for a.self.kind a.self.m a.self.n a.self.allowance) a.cs.now l.cvs _ _ l.i _ c.put.ensures l.invariant.2 (λ q less. (r.given q less).1),
    )

pub returns : goal.returns
returns c =
    let a = c.args in
    let l = c.loop-i in
    record { refused = laws.first_end (row_refusal_for a.self.kind a.self.m a.self.n a.self.allowance) _ l.i (omega arith) ∙ sym l.invariant.1; values = λ z i h. l.invariant.2 i (omega arith) }

-- `sheets::checking::arguments_refusal` meets its contract. The invariant: no argument before the i-th is refused. Assumes nothing.
use mathlib.Core.Path.{◌≡◌, refl, sym, ◌∙◌}
use native.Mathlib.Omega.{arith}
use Rattle.sheets.specs.Sheet.{argument_refusal}
use Rattle.sheets.proofs.Laws as laws
use Rattle.sheets.proofs.checking.arguments_refusal.Goals as goal

pub loop-x-init : goal.loop-x-init
loop-x-init c = refl

pub returns-then-outside : goal.returns-then-outside
returns-then-outside c =
    let l = c.loop-x in
    laws.first_stop argument_refusal _ l.x-index 8 (omega arith) (rw (← c.outside.ensures, c.if-outside.true)) (λ (z : 8 ≡ 0). omega arith) ∙ sym l.invariant

pub loop-x-preserved : goal.loop-x-preserved
loop-x-preserved c =
    let l = c.loop-x in
    (l.invariant ∙ laws.first_later argument_refusal _ l.x-index (omega arith) (rw (← c.outside.ensures, c.if-outside.false)))

pub returns : goal.returns
returns c = let l = c.loop-x in laws.first_end argument_refusal _ l.x-index (omega arith) ∙ sym l.invariant

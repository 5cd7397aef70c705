-- `sheets::parameters::Rows::bisected` meets its contract. Assumes nothing.
use mathlib.Core.Path.{sym, ap, ◌∙◌}
use Rattle.arith.proofs.Flags.{not_taken}
use Rattle.requests.specs.Refusals.{row_refusal, mode_refusal}
use Rattle.sheets.proofs.Laws.{ok_number}
use Rattle.sheets.proofs.parameters.Rows.bisected.Goals as goal

pub returns-then-c : goal.returns-then-c
returns-then-c c h = not_taken h

pub returns-then-is_ok : goal.returns-then-is_ok
returns-then-is_ok c h =
    let e = c.mode-mode.ensures in (
      sym (ap row_refusal e) ∙ sym c.row_refusal.ensures ∙ ok_number c.row_refusal.result (sym c.is_ok.ensures.value ∙ c.if-is_ok.true),
      c.if-c.false,
      sym (ap mode_refusal e) ∙ sym c.usable.ensures.refused ∙ ok_number c.usable.result (sym c.is_ok-then-is_ok.ensures.value ∙ h),
    )

pub returns-else-is_ok : goal.returns-else-is_ok
returns-else-is_ok c h = not_taken (sym c.if-is_ok.false ∙ h)

-- `radial::rswfo::off_disc` meets its contract. Assumes nothing.
use mathlib.Core.Path.{sym, ◌∙◌}
use Rattle.radial.proofs.Laws.{found_both, found_neither}
use Rattle.radial.proofs.rswfo.off_disc.Goals as goal

pub returns-in_err-first : goal.returns-in_err-first
returns-in_err-first c = c.from_residual.ensures ∙ found_neither _ _ _ _ _ _ _ (sym c.off_disc.ensures ∙ c.in_err-first.was)

pub returns : goal.returns
returns c = found_both _ _ _ _ _ _ _ _ _ (sym c.off_disc.ensures ∙ c.in_ok-first.was) c.second_kind-second.ensures

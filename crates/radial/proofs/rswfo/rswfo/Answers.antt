-- `radial::rswfo::rswfo` meets its contract. Assumes nothing.
use mathlib.Core.Path.{◌∙◌}
use Rattle.radial.specs.Rswfo as Rswfo
use Rattle.radial.proofs.Laws.{both_on_disc, both_off_disc}
use Rattle.radial.proofs.rswfo.rswfo.Goals as goal

pub returns-then-x : goal.returns-then-x
unfolding Rswfo.rswfo
returns-then-x c = both_on_disc _ _ _ _ _ _ c.if-x.true c.on_disc.result c.on_disc.ensures.first_value c.on_disc.ensures.second_value ∙ rw c.put_coefficients.ensures

pub returns : goal.returns
unfolding Rswfo.rswfo
returns c = let a = c.at-at.ensures in c.off_disc.ensures ∙ rw (a.0, a.1, a.2) (both_off_disc _ _ _ _ _ _ c.if-x.false ∙ rw c.put_coefficients.ensures)

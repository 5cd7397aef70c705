-- `modes::radial_functions::radial` meets its contract. Assumes nothing.
use Rattle.modes.proofs.Laws.{radial_orders}
use Rattle.modes.proofs.radial_functions.radial.Goals as goal

pub rswfo-requires : goal.rswfo-requires
rswfo-requires c = let u = c.in_ok-mode.ensures in radial_orders c.in_ok-mode.mode _ _ _ u.same u.refused

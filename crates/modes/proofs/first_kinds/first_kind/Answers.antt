-- `modes::first_kinds::first_kind` meets its contract. Assumes nothing.
use Rattle.modes.proofs.Laws.{radial_orders}
use Rattle.modes.proofs.first_kinds.first_kind.Goals as goal

pub first_kind-requires : goal.first_kind-requires
first_kind-requires c = let u = c.in_ok-mode.ensures in radial_orders c.in_ok-mode.mode _ _ _ u.same u.refused

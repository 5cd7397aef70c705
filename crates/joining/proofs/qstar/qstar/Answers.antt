-- `joining::qstar::qstar` meets its contract. Assumes nothing.
use Rattle.joining.specs.Qstar as Qstar
use Rattle.joining.proofs.qstar.qstar.Goals as goal

pub returns : goal.returns
unfolding Qstar.qstar
returns c = rw (c.parity_sign.ensures, c.qs0_of-qs0.ensures, c.ap_of-ap.ensures)

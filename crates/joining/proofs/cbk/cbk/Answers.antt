-- `joining::cbk::cbk` meets its contract. Assumes nothing.
use native.Mathlib.Omega.{arith}
use Rattle.expansion.specs.Sums.{blank}
use Rattle.joining.proofs.Laws.{cbk_is}
use Rattle.joining.proofs.cbk.cbk.Goals as goal

pub eliminate-requires : goal.eliminate-requires
unfolding blank
eliminate-requires c = (omega (arith, c.terms-nm.ensures.lower_bound.1), c.filled-w.ensures)

pub returns : goal.returns
returns c = cbk_is _ _ _ _ _ _ _ _ _ _ _ c.parity-ip.ensures.value c.terms-nm.ensures.value c.all-bk.ensures c.eliminate.ensures c.substitute.ensures

-- `joining::sums::parity_power` meets its contract. Assumes nothing.
use borrow.Author.Tests.{eq-eqb, ne_eqb}
use Rattle.joining.specs.Sums.{parity_power}
use Rattle.joining.proofs.sums.parity_power.Goals as goal

pub returns-then-ip-eq0 : goal.returns-then-ip-eq0
unfolding parity_power
returns-then-ip-eq0 c = rw (eq-eqb _ _ c.if-ip-eq0.true)

pub returns : goal.returns
unfolding parity_power
returns c = rw (ne_eqb _ _ c.if-ip-eq0.false)

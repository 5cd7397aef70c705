-- `joining::qstar::parity_sign` meets its contract. Assumes nothing.
use borrow.Author.Tests.{eq-eqb, ne_eqb}
use Rattle.joining.specs.Qstar.{parity_sign}
use Rattle.joining.proofs.qstar.parity_sign.Goals as goal

pub returns-then-ip-eq0 : goal.returns-then-ip-eq0
unfolding parity_sign
returns-then-ip-eq0 c = rw (eq-eqb _ _ c.if-ip-eq0.true)

pub returns : goal.returns
unfolding parity_sign
returns c = rw (ne_eqb _ _ c.if-ip-eq0.false)

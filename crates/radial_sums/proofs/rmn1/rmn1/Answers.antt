-- `radial_sums::rmn1::rmn1` meets its contract. Assumes nothing.
use mathlib.Core.Path.{◌∙◌}
use Rattle.radial_sums.proofs.Laws.{at_zero, off_zero}
use Rattle.radial_sums.proofs.rmn1.rmn1.Goals as goal

pub returns-then-x : goal.returns-then-x
returns-then-x c = rw (c.on_disc.ensures, c.sckb-ck.ensures) (at_zero _ _ _ _ _ c.if-x.true)

pub returns : goal.returns
returns c = let a = c.at-at.ensures in c.off_disc.ensures ∙ rw (a.0, a.1, a.2) (off_zero _ _ _ _ _ c.if-x.false)

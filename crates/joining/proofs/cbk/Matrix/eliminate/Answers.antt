-- `joining::cbk::Matrix::eliminate` meets its contract. Assumes nothing.
use Rattle.joining.specs.Cbk.{eliminated}
use Rattle.joining.proofs.cbk.Matrix.eliminate.Goals as goal

pub returns : goal.returns
unfolding eliminated
returns c = rw (← c.w_at.ensures, ← c.v_at-v.ensures, ← c.requires.1) c.eliminate_rows.ensures

-- `joining::cbk::Matrix::eliminate_rows` meets its contract. The invariant: the first k rows past the first are eliminated. Assumes nothing.
use mathlib.Core.Path.{refl}
use native.Mathlib.Numerals.{add-one}
use Rattle.joining.specs.Cbk.{rows}
use Rattle.joining.proofs.Laws.{rows_on}
use Rattle.joining.proofs.cbk.Matrix.eliminate_rows.Goals as goal

pub loop-k-init : goal.loop-k-init
unfolding rows
loop-k-init c = refl

pub loop-k-preserved : goal.loop-k-preserved
loop-k-preserved c =
    let s = c.args.self in
    let l = c.loop-k in
    rw (add-one l.k) (rows_on s.m s.ip s.cv s.u _ _ l.w l.bk _ l.k l.invariant c.v_at.ensures c.w_at.ensures)

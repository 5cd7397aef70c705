-- `joining::cbk::Matrix::eliminate_rows` meets its contract. The invariant: the first k rows past the first are eliminated. Assumes nothing.
use mathlib.Core.Path.{◌≡◌}
use Rattle.joining.specs.Cbk.{solved, rows}
use Rattle.joining.proofs.cbk.Matrix.eliminate_rows.Given as goal

abbrev pub invariant-loop-k : goal.invariant-loop-k
invariant-loop-k l = solved l.w l.bk ≡ rows l.self.m l.self.ip l.self.cv l.self.u l.k (solved l.initial.w l.initial.bk)

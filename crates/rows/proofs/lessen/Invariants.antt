-- `rows::lessen` meets its contract. The invariant: the first j places are written. Assumes nothing.
use mathlib.Core.Path.{◌≡◌}
use lib.ListN.{length}
use Rattle.rows.specs.Rows.{lessened}
use Rattle.rows.proofs.lessen.Given as goal

abbrev pub invariant-loop-j : goal.invariant-loop-j
invariant-loop-j l = (length l.out ≡ length l.initial.out) × (l.out ≡ lessened l.values l.gamma_squared l.j l.initial.out)

-- `sturm::entries::Matrix::substitutes` meets its contract. The invariant: pivot and flag are the definition's after i entries. Assumes nothing.
use mathlib.Core.Path.{◌≡◌}
use Rattle.sturm.specs.Pivots.{pivots_at}
use Rattle.sturm.proofs.entries.Matrix.substitutes.Given as goal

abbrev pub invariant-loop-i : goal.invariant-loop-i
invariant-loop-i l = let p = pivots_at l.self.d l.self.e l.shift l.i in (l.s ≡ p.last) × (l.substituted ≡ p.count.substituted)

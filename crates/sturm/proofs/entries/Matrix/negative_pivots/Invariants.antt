-- `sturm::entries::Matrix::negative_pivots` meets its contract. The invariant: each of the seven chains is the definition's after i entries. Assumes nothing.
use Rattle.sturm.proofs.Chain.{Chains}
use Rattle.sturm.proofs.entries.Matrix.negative_pivots.Given as goal

abbrev pub invariant-loop-i : goal.invariant-loop-i
invariant-loop-i l = Chains l.self.d l.self.e l.shifts l.i l.s l.negative l.zero_met

-- `lanes::pivots::substitute` meets its contract. The invariant: the pivots before the j-th are divisors, and the others are what they were. Assumes nothing.
use lib.Ieee.{nan}
use Rattle.arith.specs.Double.{at}
use Rattle.sturm.specs.Pivots as Pivots
use Rattle.lanes.proofs.Laws.{Stored}
use Rattle.lanes.proofs.pivots.substitute.Given as goal

abbrev pub invariant-loop-j : goal.invariant-loop-j
invariant-loop-j l = Stored nan (λ k. k) (λ k. Pivots.divisor (at l.initial.s k)) l.initial.s l.s l.j

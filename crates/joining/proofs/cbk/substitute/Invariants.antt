-- `joining::cbk::substitute` meets its contract. The invariant: the rows that are left give what all give. Assumes nothing.
use mathlib.Core.Path.{◌≡◌}
use Rattle.joining.specs.Cbk.{substituted}
use Rattle.joining.proofs.cbk.substitute.Given as goal

abbrev pub invariant-loop-k : goal.invariant-loop-k
invariant-loop-k l = substituted l.w l.k l.bk ≡ substituted l.w l.last l.initial.bk

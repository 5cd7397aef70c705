-- `sturm::entries::Matrix::gershgorin` meets its contract. The invariant: the bounds are widened by the first i entries. Assumes nothing.
use Prim.Native.Nat.{◌-◌}
use mathlib.Core.Path.{◌≡◌}
use Rattle.sturm.specs.Bounds.{bounds_from}
use Rattle.sturm.proofs.entries.Matrix.gershgorin.Given as goal

abbrev pub invariant-loop-i : goal.invariant-loop-i
invariant-loop-i l = (l.last ≡ l.self.entries - 1) × (l.bounds ≡ bounds_from l.self.d l.self.e l.last l.i)

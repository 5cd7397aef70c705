-- `sturm::entries::Matrix::fill` meets its contract. The invariant: the first entries are filled, and there are as many as before. Assumes nothing.
use mathlib.Core.Path.{◌≡◌}
use Rattle.sturm.specs.Entries.{diagonal, off_diagonal}
use Rattle.sturm.proofs.entries.Matrix.fill.Given as goal

abbrev pub invariant-loop-at : goal.invariant-loop-at
invariant-loop-at l =
    (l.self.d ≡ diagonal l.m l.parity l.cs l.at) × (l.self.e ≡ off_diagonal l.m l.parity l.cs l.at) × (l.self.entries ≡ l.fn.self.entries)

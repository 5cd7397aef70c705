-- `lanes::entries::Matrices::load` meets its contract. The invariant: the first i places of the lane are filled, and every other index holds what it held. Assumes nothing.
use Prim.Native.Nat.{◌+◌, ◌*◌}
use mathlib.Core.Path.{◌≡◌}
use mathlib.Core.Bool.{false, cond}
use lib.Dec.{ltb}
use lib.Ieee.{nan, inf}
use Rattle.arith.specs.Double.{at}
use Rattle.lanes.proofs.Laws.{Stored}
use Rattle.lanes.proofs.entries.Matrices.load.Given as goal

abbrev pub invariant-loop-i : goal.invariant-loop-i
invariant-loop-i l =
    Stored nan (λ k. 8 * k + l.lane) (λ k. cond (ltb k l.matrix.entries) (at l.matrix.d k) (inf false)) l.initial.self.d l.self.d l.i × Stored nan (λ k. 8 * k + l.lane) (at l.matrix.e) l.initial.self.e l.self.e l.i × (l.self.entries ≡ l.initial.self.entries)

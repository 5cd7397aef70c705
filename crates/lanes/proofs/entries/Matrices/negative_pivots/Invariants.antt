-- `lanes::entries::Matrices::negative_pivots` meets its contract. The invariant: the pivot and the count of each lane are its own after i entries. Assumes nothing.
use Prim.Native.Nat.{ℕ, ◌<◌}
use mathlib.Core.Path.{◌≡◌}
use lib.ListN.{length, get_or}
use Rattle.arith.specs.Double.{at}
use Rattle.lanes.proofs.Laws.{Lane}
use Rattle.lanes.proofs.entries.Matrices.negative_pivots.Given as goal

abbrev pub invariant-loop-i : goal.invariant-loop-i
invariant-loop-i l = (length l.s ≡ 8) × (length l.negative ≡ 8) × ((j : ℕ) → j < 8 → Lane l.self.d l.self.e j (at l.shifts j) l.i (at l.s j) (get_or l.negative j 0))

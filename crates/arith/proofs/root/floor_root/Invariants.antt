-- The loop of `arith::root::floor_root`: n is below the square of g + 1, and g is small enough for its square to fit. The measure is g.
use Rattle.std.proofs.Common.{suc, ◌*◌, ◌^◌, ◌<◌}
use Rattle.arith.proofs.root.floor_root.Given as goal

abbrev pub invariant-loop-g : goal.invariant-loop-g
invariant-loop-g l = (l.n < suc l.g * suc l.g) × (l.g < 2 ^ 29)

abbrev pub decreases-loop-g : goal.decreases-loop-g
decreases-loop-g l = l.g

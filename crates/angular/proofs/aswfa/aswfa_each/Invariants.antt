-- `angular::aswfa::aswfa_each` meets its contract. The invariant: the pairs of the first j arguments are in place. Assumes nothing.
use Prim.Native.Nat.{◌*◌}
use mathlib.Core.Path.{◌≡◌}
use mathlib.Core.List.{◌++◌}
use lib.ListN.{length, take, drop}
use Rattle.angular.specs.Aswfa.{aswfa}
use Rattle.angular.specs.Inside.Turns.{in_turn}
use Rattle.angular.proofs.aswfa.aswfa_each.Given as goal

abbrev pub invariant-loop-j : goal.invariant-loop-j
invariant-loop-j l = (length l.out ≡ length l.initial.out) × (l.out ≡ in_turn (aswfa l.mode.m l.mode.n l.mode.c l.cv l.kd) (take l.j l.xs) ++ drop (2 * l.j) l.initial.out)

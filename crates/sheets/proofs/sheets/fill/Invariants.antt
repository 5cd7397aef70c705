-- `sheets::sheets::fill` meets its contract. The invariant: the pairs of the first i parameters are in place. Assumes nothing.
use Prim.Native.Nat.{ℕ, ◌-◌, ◌*◌, ◌≤◌, ◌<◌}
use mathlib.Core.Path.{◌≡◌}
use mathlib.Core.List.{List, ◌++◌}
use lib.Ieee.{Float}
use lib.ListN.{length, take, drop}
use Rattle.arith.specs.Double.{at}
use Rattle.angular.specs.Aswfa.{aswfa}
use Rattle.angular.specs.Inside.Turns.{in_turn}
use Rattle.sheets.specs.Sheet.{each}
use Rattle.sheets.proofs.sheets.fill.Given as goal

-- the pairs of c with the characteristic value cv c
abbrev pub row_of_pairs : ℕ → ℕ → Float → List Float → (Float → Float) → Float → List Float
row_of_pairs m n kd xs cv c = in_turn (aswfa m n c (cv c) kd) xs

abbrev pub invariant-loop-i : goal.invariant-loop-i
invariant-loop-i l =
    (l.from ≡ l.i * l.width) × (length l.block ≡ length l.initial.block)
    × ((cv : Float → Float) → ((j : ℕ) → j < length l.cs → at l.cvs j ≡ cv (at l.cs j)) → l.block ≡ each (row_of_pairs l.m l.n l.kd l.xs cv) (take l.i l.cs) ++ drop l.from l.initial.block)

-- `lanes::pivots::any_zero` meets its contract. The invariant: where the flag is false, no pivot before the j-th is zero. Assumes nothing.
use Prim.Native.Nat.{ℕ, ◌<◌}
use mathlib.Core.Path.{◌≡◌}
use mathlib.Core.Bool.{false}
use lib.Ieee.{eq}
use Rattle.arith.specs.Double.{#0, at}
use Rattle.lanes.proofs.pivots.any_zero.Given as goal

abbrev pub invariant-loop-j : goal.invariant-loop-j
invariant-loop-j l = l.zero ≡ false → (k : ℕ) → k < l.j → eq (at l.s k) #0 ≡ false

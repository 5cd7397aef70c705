-- The loop of `arctangents::bisected`.
use mathlib.Core.Path.{◌≡◌}
use Prim.Native.Nat.{ℕ, ◌-◌, ◌^◌, ◌≤◌, ◌<◌}
use Rattle.arctangents.specs.Inside.Arctangent.{Between}
use Rattle.arctangents.specs.Inside.ArctangentValues.{bisected_from, bisected}
use Rattle.arctangents.proofs.bisected.Given as goal

-- what is left to do, in `left` turns at most, gives what the whole gives
pub record Holds (m e low up : ℕ) : Type 0 where
  pub order : low < up
  pub upto : up ≤ 2 ^ 59
  pub bounds : Between low up m e
  pub left : ℕ
  pub enough : up - low ≤ left
  pub rest : bisected_from m e left low up ≡ bisected m e

abbrev pub invariant-loop-b : goal.invariant-loop-b
invariant-loop-b l = Holds l.x.m l.x.e l.b.low l.b.up

abbrev pub decreases-loop-b : goal.decreases-loop-b
decreases-loop-b l = l.b.up - l.b.low

-- `angular::sums::su1_of` meets its contract. The invariant: what is left to add gives what the whole gives, over every list that begins as ck, and p is the k-th power of x1. Assumes nothing.
use Prim.Native.Nat.{ℕ, suc, ◌+◌, ◌-◌}
use mathlib.Core.Path.{◌≡◌}
use mathlib.Core.List.{List}
use lib.Ieee.{Float}
use Rattle.arith.specs.Powers.{power}
use Rattle.angular.specs.Aswfa.{summed, value_term, su1_of}
use Rattle.angular.specs.Inside.Stages.{Agree}
use Rattle.angular.proofs.sums.su1_of.Given as goal

abbrev pub invariant-loop-k : goal.invariant-loop-k
invariant-loop-k l = (l.p ≡ power l.x1 l.k) × ((ys : List Float) → Agree (l.nm2 + 1) l.ck ys → (more : ℕ) → summed (value_term ys l.x1) (suc (l.nm2 + more) - l.k) l.k l.su1 ≡ su1_of ys l.x1 (l.nm2 + more))

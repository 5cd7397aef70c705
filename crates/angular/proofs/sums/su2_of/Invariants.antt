-- `angular::sums::su2_of` meets its contract. The invariant: what is left to add gives what the whole gives, over every list that begins as ck, and p is the power of x1 below the k-th. Assumes nothing.
use Prim.Native.Nat.{ℕ, suc, ◌+◌, ◌-◌}
use mathlib.Core.Path.{◌≡◌}
use mathlib.Core.List.{List}
use lib.Ieee.{Float}
use Rattle.arith.specs.Powers.{power}
use Rattle.angular.specs.Aswfa.{summed, derivative_term, su2_of}
use Rattle.angular.specs.Inside.Stages.{Agree}
use Rattle.angular.proofs.sums.su2_of.Given as goal

abbrev pub invariant-loop-k : goal.invariant-loop-k
invariant-loop-k l = (l.p ≡ power l.x1 (l.k - 1)) × ((ys : List Float) → Agree (l.nm2 + 1) l.ck ys → (more : ℕ) → summed (derivative_term ys l.x1) (suc (l.nm2 + more) - l.k) l.k l.su2 ≡ su2_of ys l.x1 (l.nm2 + more))

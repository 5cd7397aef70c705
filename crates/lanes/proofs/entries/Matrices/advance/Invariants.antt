-- `lanes::entries::Matrices::advance` meets its contract. The invariant: the lanes before the j-th have their pivots and counts, and the others what they had. Assumes nothing.
use Prim.Native.Nat.{ℕ, ◌+◌}
use mathlib.Core.Bool.{cond}
use mathlib.Core.List.{List}
use lib.Ieee.{Float, nan, lt}
use lib.ListN.{get_or}
use Rattle.arith.specs.Double.{#0, at}
use Rattle.sturm.specs.Pivots.{square, pivot}
use Rattle.lanes.specs.Lanes.{lane_at}
use Rattle.lanes.proofs.Laws.{Stored}
use Rattle.lanes.proofs.entries.Matrices.advance.Given as goal

abbrev pub pivot_of : List Float → List Float → ℕ → List Float → List Float → ℕ → Float
pivot_of ds es i shifts s j = pivot (lane_at ds j i) (square (lane_at es j i)) (at s j) (at shifts j)

abbrev pub number_of : (ℕ → Float) → List ℕ → ℕ → ℕ
number_of p negative j = cond (lt (p j) #0) (get_or negative j 0 + 1) (get_or negative j 0)

abbrev pub invariant-loop-j : goal.invariant-loop-j
invariant-loop-j l =
    let p = pivot_of l.self.d l.self.e l.i l.shifts l.initial.s in
    Stored nan (λ k. k) p l.initial.s l.s l.j × Stored 0 (λ k. k) (number_of p l.initial.negative) l.initial.negative l.negative l.j

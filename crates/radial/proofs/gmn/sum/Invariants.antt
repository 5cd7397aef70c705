-- `radial::gmn::sum` meets its contract. The invariant: what is left to add gives what the whole gives, and p is the power of x of the next term. Assumes nothing.
use Prim.Native.Nat.{ℕ, ◌+◌, ◌-◌, ◌*◌, ◌≤◌}
use mathlib.Core.Path.{◌≡◌}
use lib.Ieee.{Float}
use Rattle.arith.specs.Double.{#0}
use Rattle.arith.specs.Powers.{power}
use Rattle.radial.specs.Gmn.{sum_on}
use Rattle.radial.proofs.gmn.sum.Given as goal

abbrev pub invariant-loop-j : goal.invariant-loop-j
invariant-loop-j g l =
    (l.p ≡ power l.x (2 * l.j))
    × ((t : ℕ → Float) → ((k : ℕ) (r : Float) → 1 ≤ k → k ≤ l.last → goal.F-post g l.term k (power l.x (2 * k - 2)) r → r ≡ t k) → sum_on t (l.last - l.j) (l.j + 1) l.sum l.gw ≡ sum_on t l.last 1 #0 l.gw0)

-- `sheets::parameters::Rows::characteristic_values` meets its contract. The invariant: no row before the i-th is refused, and their values are in place. Assumes nothing.
use Prim.Native.Nat.{ℕ, ◌-◌, ◌≤◌, ◌<◌}
use mathlib.Core.Path.{◌≡◌}
use lib.ListN.{length, drop}
use Rattle.arith.specs.Double.{at}
use Rattle.sheets.specs.Sheet.{first_refusal, row_refusal_for, cv_for}
use Rattle.sheets.proofs.parameters.Rows.characteristic_values.Given as goal

abbrev pub invariant-loop-i : goal.invariant-loop-i
invariant-loop-i l =
    (l.i ≤ length l.cs) × (first_refusal (row_refusal_for l.self.kind l.self.m l.self.n l.self.allowance) l.cs ≡ first_refusal (row_refusal_for l.self.kind l.self.m l.self.n l.self.allowance) (drop l.i l.cs))
    × ((j : ℕ) → j < l.i → at l.cvs j ≡ cv_for l.self.kind l.self.m l.self.n l.self.allowance (at l.cs j))

abbrev pub decreases-loop-i : goal.decreases-loop-i
decreases-loop-i l = length l.cs - l.i

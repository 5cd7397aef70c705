-- `sheets::checking::arguments_refusal` meets its contract. The invariant: no argument before the next is refused. Assumes nothing.
use Prim.Native.Nat.{◌-◌, ◌≤◌}
use mathlib.Core.Path.{◌≡◌}
use lib.ListN.{length, drop}
use Rattle.sheets.specs.Sheet.{first_refusal, argument_refusal}
use Rattle.sheets.proofs.checking.arguments_refusal.Given as goal

abbrev pub invariant-loop-x : goal.invariant-loop-x
invariant-loop-x l = (first_refusal argument_refusal l.xs ≡ first_refusal argument_refusal (drop l.x-index l.xs))

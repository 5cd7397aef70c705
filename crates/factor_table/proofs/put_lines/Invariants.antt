-- `factor_table::put_lines` meets its contract. The invariant: the lines of the numbers so far are put. Assumes nothing.
use Prim.Native.Nat.{◌-◌, ◌*◌, ◌≤◌}
use mathlib.Core.Path.{◌≡◌}
use lib.ListN.{length}
use Rattle.records.specs.Text.{Put}
use Rattle.factor_table.specs.Printed.{bits_lines}
use Rattle.factor_table.proofs.put_lines.Given as goal

abbrev pub invariant-loop-number : goal.invariant-loop-number
invariant-loop-number l =
    (length l.out ≡ length l.initial.out) × (l.at ≡ 17 * l.number-index) × Put l.initial.out l.out 0 l.at (bits_lines l.numbers l.number-index)

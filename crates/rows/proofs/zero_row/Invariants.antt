-- `rows::zero_row` meets its contract. The invariant: the first j places of each slice are written. Assumes nothing.
use mathlib.Core.Path.{◌≡◌}
use lib.ListN.{length}
use Rattle.segv.specs.Row.{slices, written_row}
use Rattle.rows.specs.Rows.{zero_at}
use Rattle.rows.proofs.zero_row.Given as goal

abbrev pub invariant-loop-j : goal.invariant-loop-j
invariant-loop-j l =
    (length l.values ≡ length l.initial.values) × (length l.steps ≡ length l.initial.steps) × (length l.lowers ≡ length l.initial.lowers) × (length l.uppers ≡ length l.initial.uppers) × (length l.substituted ≡ length l.initial.substituted)
    × (slices l.values l.steps l.lowers l.uppers l.substituted ≡ written_row (zero_at l.m) l.j (slices l.initial.values l.initial.steps l.initial.lowers l.initial.uppers l.initial.substituted))

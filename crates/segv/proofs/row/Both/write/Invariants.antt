-- `segv::row::Both::write` meets its contract. The invariant: the first j places of each slice are written. Assumes nothing.
use mathlib.Core.Path.{◌≡◌}
use lib.ListN.{length}
use Rattle.segv.specs.Row.{slices, written_row, mode_at}
use Rattle.segv.specs.Inside.Arrays.{families}
use Rattle.segv.proofs.row.Both.write.Given as goal

abbrev pub invariant-loop-j : goal.invariant-loop-j
invariant-loop-j l =
    (length l.values ≡ length l.initial.values) × (length l.steps ≡ length l.initial.steps) × (length l.lowers ≡ length l.initial.lowers) × (length l.uppers ≡ length l.initial.uppers) × (length l.substituted ≡ length l.initial.substituted)
    × (slices l.values l.steps l.lowers l.uppers l.substituted ≡ written_row (mode_at (families l.self.even l.self.odd)) l.j (slices l.initial.values l.initial.steps l.initial.lowers l.initial.uppers l.initial.substituted))

-- `stream::response::put_row_lines` meets its contract. The invariant: the lines of the modes so far are put. Assumes nothing.
use Prim.Native.Nat.{◌+◌, ◌-◌, ◌*◌, ◌≤◌}
use mathlib.Core.Path.{◌≡◌}
use lib.ListN.{length}
use Rattle.records.specs.Text.{Put}
use Rattle.segv.specs.Row.{slices}
use Rattle.stream.specs.Response.{row_lines}
use Rattle.stream.proofs.response.put_row_lines.Given as goal

abbrev pub invariant-loop-j : goal.invariant-loop-j
invariant-loop-j l =
    (length l.out ≡ length l.initial.out) × (l.used ≤ l.at + 124 * l.j) × Put l.initial.out l.out l.at l.used (row_lines l.index l.m (slices l.row.values l.row.steps l.row.lowers l.row.uppers l.row.substituted) l.j)

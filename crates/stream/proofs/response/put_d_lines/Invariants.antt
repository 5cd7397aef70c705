-- `stream::response::put_d_lines` meets its contract. The invariant: the lines of the modes so far are put. Assumes nothing.
use Prim.Native.Nat.{◌+◌, ◌-◌, ◌*◌, ◌≤◌}
use mathlib.Core.Path.{◌≡◌}
use lib.ListN.{length}
use Rattle.records.specs.Text.{Put}
use Rattle.stream.specs.Response.{d_lines}
use Rattle.stream.proofs.response.put_d_lines.Given as goal

abbrev pub invariant-loop-j : goal.invariant-loop-j
invariant-loop-j l =
    (length l.out ≡ length l.initial.out) × (l.used ≤ l.at + 46 * l.j) × Put l.initial.out l.out l.at l.used (d_lines l.index l.m l.values l.j)

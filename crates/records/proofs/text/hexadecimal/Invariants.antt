-- `records::text::hexadecimal` meets its contract. The loop's invariant: with the digits that are left put in front, the buffer is what it is to become. Assumes nothing.
use mathlib.Core.Path.{◌≡◌}
use mathlib.Core.List.{◌++◌}
use Prim.Native.Nat.{◌+◌}
use lib.ListN.{length, take, drop}
use Rattle.records.specs.Text.{hexadecimal}
use Rattle.records.proofs.text.hexadecimal.Given as goal

abbrev pub invariant-loop-i : goal.invariant-loop-i
invariant-loop-i l = (length l.out ≡ length l.initial.out) × (take l.at l.out ++ hexadecimal l.i l.rest ++ drop (l.at + l.i) l.out ≡ take l.at l.initial.out ++ hexadecimal 16 l.n ++ drop (l.at + 16) l.initial.out)

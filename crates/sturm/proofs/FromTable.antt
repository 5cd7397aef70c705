-- The roots beside the diagonal are the same with a's factors from the table. Assumes nothing.
use Prim.Native.Nat.{ℕ, zero, suc, ◌+◌, ◌-◌, ◌*◌, ◌<◌}
use mathlib.Core.Path.{◌≡◌, refl}
use native.Mathlib.Omega.{arith}
use borrow.Author.Tests.{lt-ltb, le-ltb}
use lib.Ieee.{Float}
use Rattle.factors.proofs.Places.{lookup_law}
use Rattle.sturm.specs.Entries.{entry_e, first_entries}
use Rattle.sturm.specs.FromTable.{entry_from_table, from_table, SameRoots}

same_root : (m parity : ℕ) (cs : Float) (i : ℕ) → parity < 2 → entry_from_table m parity cs i ≡ entry_e m (2 * i + parity) cs
unfolding entry_e
same_root m parity cs zero h = rw (lt-ltb (2 * 0 + parity) 2 (omega arith))
same_root m parity cs (suc i) h =
    let before : 2 * suc i + parity - 2 ≡ 2 * (suc i - 1) + parity = omega arith in
    rw (le-ltb (2 * suc i + parity) 2 (omega arith), before, lookup_law m parity (suc i - 1) h)

pub same_roots : SameRoots
unfolding from_table first_entries
same_roots m parity cs zero h = refl
same_roots m parity cs (suc i) h = rw (same_roots m parity cs i h, same_root m parity cs i h)

-- The products r1 of `cbk`, which the code keeps in a list from k to k. Definitions only.
use Rattle.std.specs.Prelude.{ℕ, ◌≤◌, ◌≡◌, List, Float}
use Rattle.arith.specs.Double.{at}
use Rattle.joining.specs.Cbk.{r1_at}

-- the list has those for k at the indices from lo to nm
abbrev pub Holds : List Float → ℕ → ℕ → ℕ → ℕ → Type 0
Holds r1 m k lo nm = (i : ℕ) → lo ≤ i → i ≤ nm → at r1 i ≡ r1_at m i k

-- What the families of a row come to. Definitions only.
use Rattle.std.specs.Prelude.{ℕ, ◌<◌, ◌≤◌, ◌≡◌, Float, None}
use Rattle.arith.specs.Double.{#0}
use Rattle.sturm.specs.Bounds.{bounds_of}
use Rattle.sturm.specs.Entries.{diagonal, off_diagonal}
use Rattle.segv.specs.Families.{ends_within}
use Rattle.lanes.specs.declared.entries.Matrices.{Matrices}
use Rattle.lanes.specs.Lanes.{Holds}
use Rattle.last_values.specs.declared.lane.Lane.{Lane}
use Rattle.last_values.specs.Lane.{Last, last_from, comes_to}

-- the family of a parity, 0 even and 1 odd, from the Gershgorin bounds on, as `family_of` has it
unfoldable pub last_of : ℕ → ℕ → Float → ℕ → ℕ → ℕ → Last
last_of m parity cs entries places allowance =
    let d = diagonal m parity cs entries in
    let e = off_diagonal m parity cs entries in
    last_from d e entries places allowance places 0 (ends_within (bounds_of d e entries)) #0

-- lane j has this family's matrix, and comes to what the family comes to
pub record Opened (m parity : ℕ) (cs : Float) (entries places allowance j : ℕ) (x : Matrices) (l : Lane) : Type 0 where
  pub few : entries ≤ x.entries
  pub holds : Holds x.d x.e j entries (diagonal m parity cs entries) (off_diagonal m parity cs entries)
  pub comes : comes_to (diagonal m parity cs entries) (off_diagonal m parity cs entries) entries places allowance l ≡ last_of m parity cs entries places allowance
  pub inside : l.outcome ≡ None → l.index < places

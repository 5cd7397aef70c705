-- The oblate radial functions of a mode at x (`rswfo`): both kinds (kf = 3), and the first kind alone (kf = 1). Definitions only.
use Rattle.std.specs.Prelude.{ℕ, true, false, List, Option, Some, None, Float}
use Rattle.std.specs.Float.Ieee.{neg, lt}
use Rattle.arith.specs.Double.{#1, #1e-8}
use Rattle.expansion.specs.Sdmn.{sdmn}
use Rattle.expansion.specs.Sckb.{sckb}
use Rattle.expansion.specs.declared.values.Pair.{Pair}
use Rattle.radial_sums.specs.Rmn1.{rmn1}
use Rattle.radial_sums.specs.Rmn2l.{rmn2l}
use Rattle.radial.specs.declared.rswfo.Radial.{Radial}
use Rattle.radial.specs.Rmn2so.{rmn2so}

-- the expansion coefficients: the mode is oblate, kd is −1
abbrev pub coefficients : ℕ → ℕ → Float → Float → List Float
coefficients m n c cv = sdmn m n c cv (neg #1)

-- what `rmn2l` keeps, or where digits or orders were lost the other
unfoldable pub kept_or : Option Pair → Pair → Pair
kept_or (Some r2) other = r2
kept_or None other = other

-- the second kind at x by `rmn2so`; r1 is the first kind there
abbrev pub by_so : List Float → ℕ → ℕ → Float → Float → Float → Pair → Pair
by_so df m n c cv x r1 = rmn2so df (sckb df m n c) m n c cv x r1

-- the second kind at x: above 1e-8 `rmn2l` is tried first
unfoldable pub second_kind : List Float → ℕ → ℕ → Float → Float → Float → Pair → Pair
second_kind df m n c cv x r1 = elim (lt #1e-8 x) [ true ↦ kept_or (rmn2l df m n c x) (by_so df m n c cv x r1) | false ↦ by_so df m n c cv x r1 ]

-- both kinds, the first being given; neither where its order was not found
unfoldable pub with_second : List Float → ℕ → ℕ → Float → Float → Float → Option Pair → Option Radial
with_second df m n c cv x (Some r1) = Some (record { first = r1; second = second_kind df m n c cv x r1 })
with_second df m n c cv x None = None

-- both kinds at x
unfoldable pub rswfo : ℕ → ℕ → Float → Float → Float → Option Radial
rswfo m n c cv x =
    let df = coefficients m n c cv in
    with_second df m n c cv x (rmn1 df m n c x)

-- the first kind at x
unfoldable pub first_kind : ℕ → ℕ → Float → Float → Float → Option Pair
first_kind m n c cv x = rmn1 (coefficients m n c cv) m n c x

-- A list that is changed in place from an index on, each element by its own rule. Assumes nothing.
use Prim.Native.Nat.{ℕ, ◌≤◌, ◌<◌}
use mathlib.Core.Path.{◌≡◌}
use mathlib.Core.List.{List}
use lib.Ieee.{Float}
use Rattle.arith.specs.Double.{at}

module _ (f : ℕ → Float → Float) (lo : ℕ) (xs : List Float) where
  -- ys is xs with f applied at the indices from lo up to i, i left out
  pub record Swept (i : ℕ) (ys : List Float) : Type 0 where
    pub done : (q : ℕ) → q < i → lo ≤ q → at ys q ≡ f q (at xs q)
    pub rest : (q : ℕ) → i ≤ q → at ys q ≡ at xs q

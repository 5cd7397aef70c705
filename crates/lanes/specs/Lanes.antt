-- Eight matrices side by side, a lane for each. Definitions only.
use Rattle.std.specs.Prelude.{ℕ, ◌+◌, ◌*◌, ◌≤◌, ◌<◌, ◌≡◌, false, List, Float, replicate}
use Rattle.std.specs.Float.{inf}
use Rattle.arith.specs.Double.{at, #0}

-- entry i of lane j
abbrev pub lane_at : List Float → ℕ → ℕ → Float
lane_at xs j i = at xs (8 * i + j)

-- Lane j has the first k entries of the matrix with the diagonal d and the roots e beside it. Past them the diagonal is infinite, so that no pivot there is below zero.
pub record Holds (ds es : List Float) (j k : ℕ) (d e : List Float) : Type 0 where
  pub diagonal : (i : ℕ) → i < k → lane_at ds j i ≡ at d i
  pub roots : (i : ℕ) → i < k → lane_at es j i ≡ at e i
  pub past : (i : ℕ) → k ≤ i → i < 192 → lane_at ds j i ≡ inf false

-- a store in one lane leaves lane j as it is
abbrev pub SameLane : List Float → List Float → ℕ → Type 0
SameLane xs ys j = (i : ℕ) → lane_at ys j i ≡ lane_at xs j i

-- no entry in any lane
abbrev pub no_entries : List Float
no_entries = replicate 1536 #0

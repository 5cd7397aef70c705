-- Eight families, bisected side by side. Definitions only.
use Rattle.std.specs.Prelude.{ℕ, ◌<◌, ◌≤◌, ◌≡◌, true, List, [], Float, length, get_or, None, is_some}
use Rattle.std.specs.Float.{nan}
use Rattle.lanes.specs.declared.entries.Matrices.{Matrices}
use Rattle.lanes.specs.Lanes.{Holds}
use Rattle.last_values.specs.declared.lane.Lane.{Lane}
use Rattle.last_values.specs.Lane.{comes_to}

-- what a list of lanes has past its end
abbrev pub no_lane : Lane
no_lane = record { lower = nan; upper = nan; index = 0; left = 0; outcome = None; ends = record { uppers = []; lowers = [] } }

abbrev pub lane_of : List Lane → ℕ → Lane
lane_of ls j = get_or ls j no_lane

-- each lane's place is one of its places
abbrev pub Inside : ℕ → List Lane → Type 0
Inside places ls = (j : ℕ) → j < 8 → (lane_of ls j).outcome ≡ None → (lane_of ls j).index < places

-- after some steps of some lanes each comes to the same, and one that has ended stays so
pub record Went (x : Matrices) (places allowance : ℕ) (ls ls' : List Lane) : Type 0 where
  pub comes : (j k : ℕ) (d e : List Float) → j < 8 → k ≤ x.entries → Holds x.d x.e j k d e → comes_to d e k places allowance (lane_of ls' j) ≡ comes_to d e k places allowance (lane_of ls j)
  pub eight : length ls' ≡ 8
  pub inside : Inside places ls'
  pub kept : (j : ℕ) → j < 8 → is_some (lane_of ls j).outcome ≡ true → is_some (lane_of ls' j).outcome ≡ true

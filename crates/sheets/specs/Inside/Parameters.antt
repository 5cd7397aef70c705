-- Rows of several parameters at once. Definitions only.
use Rattle.std.specs.Prelude.{ℕ, ◌+◌, ◌≤◌, ◌<◌, ◌≡◌, false, List, Float, length, drop, Result, IfOk}
use Rattle.std.specs.Float.Ieee.{lt}
use Rattle.arith.specs.Double.{at, #1e-10}
use Rattle.requests.specs.declared.checking.Kind.{Kind}
use Rattle.requests.specs.Refusals.{row_refusal, mode_refusal}
use Rattle.requests.specs.declared.refusals.Refusal.{Refusal}
use Rattle.requests.specs.Answers.{code}
use Rattle.sheets.specs.declared.parameters.Found.{Found}
use Rattle.sheets.specs.Sheet.{mode_with, first_refusal, row_refusal_for, cv_for}

-- this c is not refused 4, 5 or 6, and its row is bisected
abbrev pub Bisected : ℕ → ℕ → Float → Type 0
Bisected m n c = (row_refusal (mode_with m n c) ≡ 0) × (lt c #1e-10 ≡ false) × (mode_refusal (mode_with m n c) ≡ 0)

-- the values at n of the rows of some c from place i of a list on
pub record Values (kind : Kind) (m n allowance : ℕ) (cs : List Float) (i : ℕ) (f : Found) : Type 0 where
  pub some : 0 < f.count
  pub few : f.count ≤ 4
  pub within : i + f.count ≤ length cs
  pub given : (q : ℕ) → q < f.count → (row_refusal_for kind m n allowance (at cs (i + q)) ≡ 0) × (at f.values q ≡ cv_for kind m n allowance (at cs (i + q)))

-- those, or the first refusal from place i on
pub record RowsFrom (kind : Kind) (m n allowance : ℕ) (cs : List Float) (i : ℕ) (r : Result Found Refusal) : Type 0 where
  pub given : IfOk r (Values kind m n allowance cs i)
  pub refused : (code r ≡ 0 → ⊥) → code r ≡ first_refusal (row_refusal_for kind m n allowance) (drop i cs)

-- the first k values of v are in the places from i on, and the places before them are as they were
pub record Put (v : List Float) (k i : ℕ) (before after : List Float) : Type 0 where
  pub size : length after ≡ length before
  pub new : (q : ℕ) → q < k → at after (i + q) ≡ at v q
  pub kept : (j : ℕ) → j < i → at after j ≡ at before j

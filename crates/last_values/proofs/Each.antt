-- Steps of all lanes, one lane after the other, and passes one after the other. Assumes nothing.
use Prim.Native.Nat.{ℕ, ◌+◌, ◌≤◌, ◌<◌}
use mathlib.Core.Path.{◌≡◌, refl, ◌∙◌}
use mathlib.Core.List.{List}
use native.Mathlib.Omega.{arith}
use native.Mathlib.Decide.{ℕ_discrete}
use lib.Ieee.{Float}
use lib.ListN.{length, get_or, set, length-set}
use lib.Seq.{get_or-set_same, get_or-set_other}
use Rattle.arith.specs.Double.{at}
use Rattle.sturm.specs.Pivots.{negative_pivots}
use Rattle.lanes.specs.declared.entries.Matrices.{Matrices}
use Rattle.lanes.specs.Lanes.{Holds}
use Rattle.last_values.specs.declared.lane.Lane.{Lane}
use Rattle.last_values.specs.Lane.{midpoint_of, Stepped}
use Rattle.last_values.specs.Lanes.{no_lane, lane_of, Inside, Went}

-- ---- the first j lanes have made their step
module _ (places allowance : ℕ) (negative : List ℕ) (ls : List Lane) where
  pub record Each (ls' : List Lane) (j : ℕ) : Type 0 where
    pub eight : length ls' ≡ 8
    pub done : (i : ℕ) → i < j → Stepped places allowance (get_or negative i 0) (lane_of ls i) (lane_of ls' i)
    pub rest : (i : ℕ) → j ≤ i → lane_of ls' i ≡ lane_of ls i

  pub each_none : length ls ≡ 8 → Each ls 0
  each_none e = record { eight = e; done = λ i l. absurd (omega arith); rest = λ i l. refl }

  module _ (ls' : List Lane) (j : ℕ) (r : Each ls' j) (less : j < 8) where
    pub each_on : (t : Lane) → Stepped places allowance (get_or negative j 0) (lane_of ls' j) t → Each (set ls' j t) (j + 1)
    each_on t s =
        record {
          eight = length-set ls' j t ∙ r.eight;
          done = λ i l. pick i l (ℕ_discrete i j);
          rest = λ i l. get_or-set_other ls' j i t no_lane (λ q. omega arith) ∙ r.rest i (omega arith);
        }
      where
        here : Stepped places allowance (get_or negative j 0) (lane_of ls j) (lane_of (set ls' j t) j)
        here = let e = r.eight in rw (get_or-set_same ls' j t no_lane (omega (arith, e)), ← (r.rest j (omega arith))) s

        pick : (i : ℕ) → i < j + 1 → Dec (i ≡ j) → Stepped places allowance (get_or negative i 0) (lane_of ls i) (lane_of (set ls' j t) i)
        pick i l (yes q) = rw q here
        pick i l (no q) = rw (get_or-set_other ls' j i t no_lane q) (r.done i (omega arith))

-- ---- passes
module _ (x : Matrices) (places allowance : ℕ) where
  -- none yet
  pub went_none : (ls : List Lane) → length ls ≡ 8 → Inside places ls → Went x places allowance ls ls
  went_none ls e h = record { comes = λ j k d g l m o. refl; eight = e; inside = h; kept = λ j l z. z }

  -- some and then some
  pub went_on : (ls ls' ls'' : List Lane) → Went x places allowance ls ls' → Went x places allowance ls' ls'' → Went x places allowance ls ls''
  went_on ls ls' ls'' a b =
      record {
        comes = λ j k d g l m o. b.comes j k d g l m o ∙ a.comes j k d g l m o;
        eight = b.eight;
        inside = b.inside;
        kept = λ j l z. b.kept j l (a.kept j l z);
      }

  -- one, by the counts at all midpoints
  pub went_one : (ls ls' : List Lane) (shifts : List Float) (negative : List ℕ) → length ls' ≡ 8
      → ((j : ℕ) → j < 8 → at shifts j ≡ midpoint_of (lane_of ls j))
      → ((j k : ℕ) (d e : List Float) → j < 8 → k ≤ x.entries → Holds x.d x.e j k d e → get_or negative j 0 ≡ (negative_pivots d e k (at shifts j)).negative)
      → ((j : ℕ) → j < 8 → Stepped places allowance (get_or negative j 0) (lane_of ls j) (lane_of ls' j))
      → Went x places allowance ls ls'
  went_one ls ls' shifts negative e m c s =
      record {
        comes = λ j k d g l h o. (s j l).comes d g k (rw (← (m j l)) (c j k d g l h o));
        eight = e;
        inside = λ j l. (s j l).inside;
        kept = λ j l. (s j l).kept;
      }

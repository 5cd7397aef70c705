-- What `arctangent` gives. Definitions only.
-- sin t - x * cos t is the root of 1 + x ^ 2 times the sine of t less the arctangent of x, so for a t from 0 to 2 its sign tells on which side of the arctangent t lies.
-- There are two such t within 2 ^ -40 of r, one on each side, for every partial sum of sine and cosine from the 600-th on: the arctangent lies between the two.
use Rattle.std.specs.Prelude.{ℕ, ◌+◌, ◌*◌, ◌^◌, ◌≤◌, ◌<◌, ◌≡◌, false, not, T, pos, Float}
use Rattle.std.specs.Float.{nan, inf, fin}
use Rattle.std.specs.Float.Ieee.{le, lt}
use Rattle.std.specs.Float.Ieee.Positive.{num, den}
use Rattle.std.specs.Float.Ieee.Scale.{finite}
use Rattle.arith.specs.Double.{#π/2}
use Rattle.circle.specs.Series.{east, north, west, south, part, term}
use Rattle.circle.specs.Within.{less}

-- sin t ≤ a / b * cos t, and the other way round, for t = p / q, by the sums up to the n-th term
abbrev pub NotAbove : ℕ → ℕ → ℕ → ℕ → ℕ → Type 0
NotAbove a b p q n = part (term p q n) n north * b + part (term p q n) n west * a ≤ part (term p q n) n east * a + part (term p q n) n south * b

abbrev pub NotBelow : ℕ → ℕ → ℕ → ℕ → ℕ → Type 0
NotBelow a b p q n = part (term p q n) n east * a + part (term p q n) n south * b ≤ part (term p q n) n north * b + part (term p q n) n west * a

-- the two t are low / 2 ^ 58 and up / 2 ^ 58, and 2 ^ 18 of that is 2 ^ -40; a low of 0 is below every arctangent
pub record IsArctangent (x r : Float) : Type 0 where
  pub number : T (finite r)
  pub not_negative : less r ≡ 0
  pub low : ℕ
  pub up : ℕ
  pub low_near : num r * 2 ^ 58 ≤ (low + 2 ^ 18) * den r
  pub up_near : up * den r ≤ num r * 2 ^ 58 + 2 ^ 18 * den r
  pub low_upto_two : low ≤ 2 ^ 59
  pub up_upto_two : up ≤ 2 ^ 59
  pub from_below : 0 < low → (n : ℕ) → 600 ≤ n → NotAbove (num x) (den x) low (2 ^ 58) n
  pub from_above : (n : ℕ) → 600 ≤ n → NotBelow (num x) (den x) up (2 ^ 58) n

pub record Arctangent (x r : Float) : Type 0 where
  pub near : T (le (fin false 0 (pos 0)) x) → T (lt x (inf false)) → IsArctangent x r
  pub infinite : x ≡ inf false → r ≡ #π/2
  pub outside : T (not (le (fin false 0 (pos 0)) x)) → r ≡ nan

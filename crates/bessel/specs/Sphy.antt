-- Spherical Bessel functions of the second kind (`sphy`), with the names of the source, for orders from 0 to an n of 2 or more: `rmn2l` asks for 50 or more. Definitions only.
use Rattle.std.specs.Prelude.{ℕ, zero, suc, ◌-◌, Bool, true, false, cond, List, set, Float, Result, Ok, Err}
use Rattle.std.specs.Float.Ieee.{neg, lt, le}
use Rattle.arith.specs.Double.{◌⊕◌, ◌⊖◌, ◌⊗◌, ◌⊘◌, dbl, #1, #2, #1e-60, #1e300}
use Rattle.arith.specs.Choice.{abs}
use Rattle.sines.specs.Functions.{sine, cosine}
use Rattle.bessel.specs.declared.sphj.Lowest.{Lowest}
use Rattle.bessel.specs.Sphj.{blank, derived}

-- below 1e-60; the source takes all functions for infinite there
unfoldable pub near_zero : Float → Bool
near_zero x = lt x #1e-60

-- the first n places, each v
unfoldable pub filled : Float → ℕ → List Float → List Float
filled v zero places = places
filled v (suc k) places = set (filled v k places) k v

-- ---- order 0, order 1 and the derivative of order 0

unfoldable pub lowest : Float → Lowest
lowest x =
    let sa = neg (cosine x) ⊘ x in
    record { sa = sa; sb = (sa ⊖ sine x) ⊘ x; da = (sine x ⊕ cosine x ⊘ x) ⊘ x }

-- ---- upward recurrence

-- the places, the highest order that counts as computed, and whether all orders up to n were reached
pub record Recurrence : Type 0 where
  pub sy : List Float
  pub nm : ℕ
  pub whole : Bool

-- the highest order that counts, as the code gives it: an `Err` where not all were reached
unfoldable pub order_of : Result ℕ ℕ → ℕ
order_of (Ok nm) = nm
order_of (Err nm) = nm

-- `left` more orders from k on; f0 and f1 are the last two functions. It ends where one reaches 1e300 in size, and that one counts no more. Where none does, the source leaves out the last order, n
unfoldable pub steps_up : Float → ℕ → ℕ → ℕ → Float → Float → List Float → Recurrence
steps_up x n zero k f0 f1 sy = record { sy = sy; nm = n - 1; whole = true }
steps_up x n (suc left) k f0 f1 sy =
    let f = (#2 ⊗ dbl k ⊖ #1) ⊗ f1 ⊘ x ⊖ f0 in
    let s = set sy k f in
    elim (le #1e300 (abs f)) [ true ↦ record { sy = s; nm = k - 1; whole = false } | false ↦ steps_up x n left (suc k) f1 f s ]

-- the orders from 2 to n
unfoldable pub recurred : Float → ℕ → Recurrence
recurred x n =
    let l = lowest x in
    steps_up x n (n - 1) 2 l.sa l.sb (set (set blank 0 l.sa) 1 l.sb)

-- ---- the functions, their derivatives and the highest order; what is not computed is zero

unfoldable pub sy : Float → ℕ → List Float
sy x n = cond (near_zero x) (filled (neg #1e300) (suc n) blank) (recurred x n).sy

-- where not all orders were reached, the derivative of order 0 alone is formed
unfoldable pub dy : Float → ℕ → List Float
dy x n =
    let r = recurred x n in
    let lowest_only = set blank 0 (lowest x).da in
    cond (near_zero x) (filled #1e300 (suc n) blank) (cond r.whole (derived x r.sy (n - 1) lowest_only) lowest_only)

unfoldable pub highest : Float → ℕ → ℕ
highest x n = cond (near_zero x) n (recurred x n).nm

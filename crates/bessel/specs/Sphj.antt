-- Spherical Bessel functions of the first kind (`sphj`), with the names of the source, for orders from 0 to an n of 2 or more: `rmn1` asks for 50 or more. Definitions only.
use Rattle.std.specs.Prelude.{ℕ, zero, suc, Bool, cond, List, ltb, leb, set, replicate, Float}
use Rattle.std.specs.Float.Ieee.{lt}
use Rattle.arith.specs.Double.{◌⊕◌, ◌⊖◌, ◌⊗◌, ◌⊘◌, dbl, at, #0, #1, #2, #3, #1e-100}
use Rattle.arith.specs.Choice.{abs}
use Rattle.sines.specs.Functions.{sine, cosine}
use Rattle.bessel.specs.declared.sphj.Orders.{Orders}
use Rattle.bessel.specs.declared.sphj.Lowest.{Lowest}
use Rattle.bessel.specs.Msta1.{msta1}
use Rattle.bessel.specs.Msta2.{msta2}

-- 252 places, unwritten ones zero
unfoldable pub blank : List Float
blank = replicate 252 #0

-- below 1e-100 in size; the source takes such an x for zero
unfoldable pub tiny : Float → Bool
tiny x = lt (abs x) #1e-100

-- ---- the highest order that is computed, nm, and the one from which backward recurrence starts. The latter is 0 where the search for it would have to try an order outside 1 to 100,000

unfoldable pub searched_orders : Float → ℕ → Orders
searched_orders x n =
    let m = msta1 x 200 in
    cond (ltb m n) (record { nm = m; from = m }) (record { nm = n; from = msta2 x n 15 })

-- where x is tiny nothing is searched for, and no recurrence is run
unfoldable pub orders : Float → ℕ → Orders
orders x n = cond (tiny x) (record { nm = n; from = 1 }) (searched_orders x n)

-- ---- order 0, order 1 and the derivative of order 0

unfoldable pub lowest : Float → Lowest
lowest x =
    let sa = sine x ⊘ x in
    record { sa = sa; sb = (sa ⊖ cosine x) ⊘ x; da = (cosine x ⊖ sa) ⊘ x }

-- ---- backward recurrence

-- the last two numbers, f1 the later one, and the places
pub record Recurrence : Type 0 where
  pub f0 : Float
  pub f1 : Float
  pub sj : List Float

-- one step, to order k; up to order nm its number is kept
unfoldable pub step : Float → ℕ → ℕ → Recurrence → Recurrence
step x nm k s =
    let f = (#2 ⊗ dbl k ⊕ #3) ⊗ s.f1 ⊘ x ⊖ s.f0 in
    record { f0 = s.f1; f1 = f; sj = cond (leb k nm) (set s.sj k f) s.sj }

-- the steps to the orders below n, from n - 1 on
unfoldable pub steps_down : Float → ℕ → ℕ → Recurrence → Recurrence
steps_down x nm zero s = s
steps_down x nm (suc k) s = steps_down x nm k (step x nm k s)

-- all steps, from the order `from` to 0
abbrev pub recurred : Float → ℕ → ℕ → List Float → Recurrence
recurred x nm from sj = steps_down x nm (suc from) (record { f0 = #0; f1 = #1e-100; sj = sj })

-- the common factor, from the greater of the functions of order 0 and 1
unfoldable pub factor : Float → Float → Float → Float → Float
factor sa sb f0 f1 = cond (lt (abs sb) (abs sa)) (sa ⊘ f1) (sb ⊘ f0)

-- the first n places, each times cs
unfoldable pub scaled : Float → ℕ → List Float → List Float
scaled cs zero sj = sj
scaled cs (suc k) sj = let s = scaled cs k sj in set s k (at s k ⊗ cs)

-- ---- the derivatives of order 1 to n

unfoldable pub derived : Float → List Float → ℕ → List Float → List Float
derived x sj zero dj = dj
derived x sj (suc k) dj = set (derived x sj k dj) (suc k) (at sj k ⊖ (dbl (suc k) ⊕ #1) ⊗ at sj (suc k) ⊘ x)

-- ---- the functions and their derivatives; above the highest order that is computed both are zero

unfoldable pub sj : Float → ℕ → List Float
sj x n =
    let o = orders x n in
    let l = lowest x in
    let r = recurred x o.nm o.from blank in
    cond (tiny x) (set blank 0 #1) (scaled (factor l.sa l.sb r.f0 r.f1) (suc o.nm) r.sj)

unfoldable pub dj : Float → ℕ → List Float
dj x n = cond (tiny x) (set blank 1 (#1 ⊘ #3)) (derived x (sj x n) (orders x n).nm (set blank 0 (lowest x).da))

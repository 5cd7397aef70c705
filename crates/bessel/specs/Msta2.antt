-- An order from which backward recurrence gives mp digits of all Bessel functions up to order n (`msta2`), with the names of the source. Definitions only.
use Rattle.std.specs.Prelude.{ℕ, ◌+◌, cond, eqb, Float}
use Rattle.std.specs.Float.Ieee.{le}
use Rattle.arith.specs.Double.{◌⊕◌, ◌⊗◌, dbl, #0·5}
use Rattle.arith.specs.Choice.{abs}
use Rattle.bessel.specs.declared.msta2.Search.{Search}
use Rattle.bessel.specs.Secant.{envj, searched}
use Rattle.bessel.specs.Msta1.{first_order}

-- where the function of order n itself has at most half of mp digits before it, mp digits from the first order on, and else half of mp more than it has, from n on
unfoldable pub search_for : Float → ℕ → ℕ → Search
search_for a0 n mp =
    let hmp = #0·5 ⊗ dbl mp in
    let ejn = envj a0 n in
    record { obj = cond (le ejn hmp) (dbl mp) (hmp ⊕ ejn); n0 = cond (le ejn hmp) (first_order a0) n }

-- ten more, but 0 for 0
unfoldable pub ten_more : ℕ → ℕ
ten_more n = cond (eqb n 0) 0 (n + 10)

-- 0 where an order outside 1 to 100,000 would have to be tried
unfoldable pub msta2 : Float → ℕ → ℕ → ℕ
msta2 x n mp =
    let a0 = abs x in
    let s = search_for a0 n mp in
    ten_more (searched a0 s.obj s.n0)

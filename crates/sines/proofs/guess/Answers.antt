-- `sines::guess` meets its contract. Assumes nothing.
use mathlib.Core.Path.{◌≡◌}
use Prim.Native.Nat.{ℕ, ◌<◌}
use native.Mathlib.Omega.{arith}
use borrow.Author.Tests.{ne_eqb}
use Rattle.sines.specs.Inside.SineValues as SineValues
use Rattle.sines.proofs.guess.Goals as goal

pub returns-in-0 : goal.returns-in-0
unfolding SineValues.guess
returns-in-0 c = rw (← c.reduced-r.ensures, c.in-0.is, c.sine_series.ensures)

pub returns-in-1 : goal.returns-in-1
unfolding SineValues.guess
returns-in-1 c = rw (← c.reduced-r.ensures, c.in-1.is, c.cosine_series.ensures)

pub returns-in-2 : goal.returns-in-2
unfolding SineValues.guess
returns-in-2 c = rw (← c.reduced-r.ensures, c.in-2.is, c.sine_series-in-2.ensures)

not_so : (k q : ℕ) → k < q → q ≡ k → ⊥
not_so k q h e = omega (arith, h, e)

pub returns-in_default : goal.returns-in_default
unfolding SineValues.guess
returns-in_default c =
    let q = c.reduced-r.result.quarters in
    let h : 2 < q = omega arith in
    rw (← c.reduced-r.ensures, ne_eqb _ _ (not_so 0 q (omega (arith, h))), ne_eqb _ _ (not_so 1 q (omega (arith, h))), ne_eqb _ _ (not_so 2 q h), c.cosine_series-in_default.ensures)

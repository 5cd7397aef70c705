-- `radial_sums::bessel_sums::rest` meets its contract. The invariant: what is left to add gives what the whole gives. Assumes nothing.
use Prim.Native.Nat.{suc, ◌-◌}
use mathlib.Core.Path.{◌≡◌, ◌∙◌}
use native.Mathlib.Omega.{arith}
use native.Mathlib.Numerals.{add-one}
use Rattle.radial_sums.specs.BesselSums.{bessel_on}
use Rattle.radial_sums.proofs.Laws.{bessel_stop, bessel_on_lem}
use Rattle.radial_sums.proofs.bessel_sums.rest.Goals as goal

pub returns-then-stops : goal.returns-then-stops
returns-then-stops c =
    let t = c.args.t in
    let l = c.loop-j in
    let h : t.nm - l.j ≡ suc (t.nm - suc l.j) = omega arith in
    bessel_stop _ _ t.m t.ip t.half (t.nm - suc l.j) l.j l.r _ _ l.sum l.sw c.factor-r.ensures c.lg.ensures _ c.stops.ensures c.if-stops.true ∙ rw h at l.invariant

pub loop-j-preserved : goal.loop-j-preserved
loop-j-preserved c =
    let t = c.args.t in
    let l = c.loop-j in
    let h : t.nm - l.j ≡ suc (t.nm - suc l.j) = omega arith in
    rw (add-one l.j) (bessel_on_lem _ _ t.m t.ip t.half (t.nm - suc l.j) l.j l.r _ _ l.sum l.sw c.factor-r.ensures c.lg.ensures _ c.stops.ensures c.if-stops.false ∙ rw h at l.invariant)

pub returns : goal.returns
unfolding bessel_on
returns c = let h : c.args.t.nm - c.loop-j.j ≡ 0 = omega arith in rw h at c.loop-j.invariant

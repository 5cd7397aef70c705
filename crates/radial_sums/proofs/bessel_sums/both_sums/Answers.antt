-- `radial_sums::bessel_sums::both_sums` meets its contract. The invariant: for each sum, what is left to add gives what the whole gives. Assumes nothing.
use Prim.Native.Nat.{suc, ◌-◌}
use mathlib.Core.Path.{◌≡◌, ◌∙◌}
use native.Mathlib.Omega.{arith}
use native.Mathlib.Numerals.{add-one}
use Rattle.radial_sums.specs.BesselSums.{bessel_on}
use Rattle.radial_sums.proofs.Laws.{bessel_stop, bessel_on_lem, sums_are}
use Rattle.radial_sums.proofs.bessel_sums.both_sums.Goals as goal

pub returns-then-stops-2 : goal.returns-then-stops-2
returns-then-stops-2 c =
    let a = c.args in
    let l = c.loop-j in
    let h : a.t.nm - l.j ≡ suc (a.t.nm - suc l.j) = omega arith in
    sums_are _ _ _ _ (bessel_stop a.df.now a.sj.now a.t.m a.t.ip a.t.half (a.t.nm - suc l.j) l.j l.r _ _ l.value l.value0 c.factor-r.ensures c.lg.ensures _ c.stops.ensures c.if-stops.true ∙ rw h at l.invariant.0) (bessel_stop a.df.now a.dj.now a.t.m a.t.ip a.t.half (a.t.nm - suc l.j) l.j l.r _ _ l.derivative l.derivative0 c.factor-r.ensures c.lg.ensures _ c.stops-then-stops.ensures c.if-stops-2.true ∙ rw h at l.invariant.1)

pub returns-then-stops : goal.returns-then-stops
returns-then-stops c =
    let a = c.args in
    let l = c.loop-j in
    let h : a.t.nm - l.j ≡ suc (a.t.nm - suc l.j) = omega arith in
    sums_are _ _ _ _ (bessel_stop a.df.now a.sj.now a.t.m a.t.ip a.t.half (a.t.nm - suc l.j) l.j l.r _ _ l.value l.value0 c.factor-r.ensures c.lg.ensures _ c.stops.ensures c.if-stops.true ∙ rw h at l.invariant.0) (c.rest-derivative.ensures ∙ rw (add-one l.j) (bessel_on_lem a.df.now a.dj.now a.t.m a.t.ip a.t.half (a.t.nm - suc l.j) l.j l.r _ _ l.derivative l.derivative0 c.factor-r.ensures c.lg.ensures _ c.stops-then-stops.ensures c.if-stops-2.false) ∙ rw h at l.invariant.1)

pub returns-then-stops-3 : goal.returns-then-stops-3
returns-then-stops-3 c =
    let a = c.args in
    let l = c.loop-j in
    let h : a.t.nm - l.j ≡ suc (a.t.nm - suc l.j) = omega arith in
    sums_are _ _ _ _ (c.rest-value.ensures ∙ rw (add-one l.j) (bessel_on_lem a.df.now a.sj.now a.t.m a.t.ip a.t.half (a.t.nm - suc l.j) l.j l.r _ _ l.value l.value0 c.factor-r.ensures c.lg.ensures _ c.stops.ensures c.if-stops.false) ∙ rw h at l.invariant.0) (bessel_stop a.df.now a.dj.now a.t.m a.t.ip a.t.half (a.t.nm - suc l.j) l.j l.r _ _ l.derivative l.derivative0 c.factor-r.ensures c.lg.ensures _ c.stops-in-loop-j.ensures c.if-stops-3.true ∙ rw h at l.invariant.1)

pub loop-j-preserved : goal.loop-j-preserved
loop-j-preserved c =
    let a = c.args in
    let l = c.loop-j in
    let h : a.t.nm - l.j ≡ suc (a.t.nm - suc l.j) = omega arith in
    (rw (add-one l.j) (bessel_on_lem a.df.now a.sj.now a.t.m a.t.ip a.t.half (a.t.nm - suc l.j) l.j l.r _ _ l.value l.value0 c.factor-r.ensures c.lg.ensures _ c.stops.ensures c.if-stops.false ∙ rw h at l.invariant.0), rw (add-one l.j) (bessel_on_lem a.df.now a.dj.now a.t.m a.t.ip a.t.half (a.t.nm - suc l.j) l.j l.r _ _ l.derivative l.derivative0 c.factor-r.ensures c.lg.ensures _ c.stops-in-loop-j.ensures c.if-stops-3.false ∙ rw h at l.invariant.1))

pub returns : goal.returns
unfolding bessel_on
returns c =
    let l = c.loop-j in
    let h : c.args.t.nm - l.j ≡ 0 = omega arith in
    sums_are _ _ _ _ (rw h at l.invariant.0) (rw h at l.invariant.1)

-- `joining::sums::expansion_partial` meets its contract. The invariant: the terms that are left give what all give. Assumes nothing.
use Prim.Native.Nat.{suc, ◌+◌, ◌-◌}
use mathlib.Core.Path.{◌≡◌, sym, ◌∙◌}
use native.Mathlib.Omega.{arith}
use native.Mathlib.Numerals.{add-one}
use Rattle.joining.specs.Sums.{sum_on, expansion_partial}
use Rattle.joining.proofs.Laws.{sum_stop, sum_on_lem}
use Rattle.joining.proofs.sums.expansion_partial.Goals as goal

pub loop-k-init : goal.loop-k-init
unfolding expansion_partial
loop-k-init c = let h : suc c.args.nm - 2 ≡ c.args.nm - 1 = omega arith in rw (h, c.rise-r.ensures)

pub returns-then-stops : goal.returns-then-stops
returns-then-stops c =
    let a = c.args in
    let l = c.loop-k in
    let h : suc a.nm - l.k ≡ suc (a.nm - l.k) = omega arith in
    sum_stop a.test _ a.m a.ip a.half (a.nm - l.k) l.k l.r _ l.sum l.sw c.next_factor-r.ensures (sym c.stops.ensures ∙ c.if-stops.true) ∙ rw h at l.invariant

pub loop-k-preserved : goal.loop-k-preserved
loop-k-preserved c =
    let a = c.args in
    let l = c.loop-k in
    let h : suc a.nm - l.k ≡ suc (a.nm - l.k) = omega arith in
    let h' : suc a.nm - (l.k + 1) ≡ a.nm - l.k = omega arith in
    rw (h', add-one l.k) (sum_on_lem a.test _ a.m a.ip a.half (a.nm - l.k) l.k l.r _ l.sum l.sw c.next_factor-r.ensures (sym c.stops.ensures ∙ c.if-stops.false) ∙ rw h at l.invariant)

pub returns : goal.returns
unfolding sum_on
returns c = let h : suc c.args.nm - c.loop-k.k ≡ 0 = omega arith in rw h at c.loop-k.invariant

-- `expansion::sdmn::Recurrence::sum_past` meets its contract. Assumes nothing.
use Prim.Native.Nat.{◌-◌, ◌+◌, suc}
use mathlib.Core.Path.{◌≡◌, sym, ◌∙◌}
use native.Mathlib.Omega.{arith}
use native.Mathlib.Numerals.{add-one}
use Rattle.expansion.specs.Sdmn.{sum_past}
use Rattle.expansion.proofs.Laws.{past_stop, past_on}
use Rattle.expansion.proofs.sdmn.Recurrence.sum_past.Goals as goal

pub loop-k-init : goal.loop-k-init
loop-k-init c = let h : suc c.args.nm - (c.args.kb + 1) ≡ c.args.nm - c.args.kb = omega arith in rw h

pub returns-then-settled : goal.returns-then-settled
returns-then-settled c =
    let a = c.args in
    let l = c.loop-k in
    let h : suc a.nm - l.k ≡ suc (a.nm - l.k) = omega arith in
    past_stop _ a.self.m a.self.ip (a.nm - l.k) l.k l.r1 _ l.su2 l.sw c.factor_at-r1.ensures (sym c.settled.ensures ∙ c.if-settled.true) ∙ rw h at l.invariant

pub loop-k-preserved : goal.loop-k-preserved
loop-k-preserved c =
    let a = c.args in
    let l = c.loop-k in
    let h : suc a.nm - l.k ≡ suc (a.nm - l.k) = omega arith in
    let h' : suc a.nm - (l.k + 1) ≡ a.nm - l.k = omega arith in
    rw (h', add-one l.k)
    (past_on _ a.self.m a.self.ip (a.nm - l.k) l.k l.r1 _ l.su2 l.sw c.factor_at-r1.ensures (sym c.settled.ensures ∙ c.if-settled.false) ∙ rw h at l.invariant)

pub returns : goal.returns
unfolding sum_past
returns c = let h : suc c.args.nm - c.loop-k.k ≡ 0 = omega arith in rw h at c.loop-k.invariant

-- `expansion::sckb::PowerSums::sum_terms` meets its contract. Assumes nothing.
use Prim.Native.Nat.{suc, ◌+◌, ◌-◌}
use mathlib.Core.Path.{◌≡◌, refl, sym, ◌∙◌}
use native.Mathlib.Omega.{arith}
use native.Mathlib.Numerals.{add-one}
use Rattle.expansion.specs.Sckb.{terms}
use Rattle.expansion.proofs.Laws.{terms_stop, terms_on}
use Rattle.expansion.proofs.sckb.PowerSums.sum_terms.Goals as goal

pub loop-i-init : goal.loop-i-init
loop-i-init c = refl

pub returns-then-settled : goal.returns-then-settled
returns-then-settled c = let a = c.args in
    let l = c.loop-i in
    let h : suc a.self.nm - l.i ≡ suc (a.self.nm - l.i) = omega arith in
    terms_stop _ a.self.m a.self.ip a.k (a.self.nm - l.i) l.i l.r _ l.sum l.sw c.next_factor-r.ensures (sym c.settled.ensures ∙ c.if-settled.true) ∙ rw h at l.invariant

pub loop-i-preserved : goal.loop-i-preserved
loop-i-preserved c = let a = c.args in
    let l = c.loop-i in
    let h : suc a.self.nm - l.i ≡ suc (a.self.nm - l.i) = omega arith in
    let h' : suc a.self.nm - (l.i + 1) ≡ a.self.nm - l.i = omega arith in
    rw (h', add-one l.i) (terms_on _ a.self.m a.self.ip a.k (a.self.nm - l.i) l.i l.r _ l.sum l.sw c.next_factor-r.ensures (sym c.settled.ensures ∙ c.if-settled.false) ∙ rw h at l.invariant)

pub returns : goal.returns
unfolding terms
returns c = let h : suc c.args.self.nm - c.loop-i.i ≡ 0 = omega arith in rw h at c.loop-i.invariant

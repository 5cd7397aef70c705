-- `joining::cbk::RightSides::s1_from` meets its contract. The invariant: the terms that are left give what all give. Assumes nothing.
use Prim.Native.Nat.{suc, ◌+◌, ◌-◌}
use mathlib.Core.Path.{◌≡◌, sym, ◌∙◌}
use native.Mathlib.Omega.{arith}
use native.Mathlib.Numerals.{add-one}
use Rattle.joining.specs.Cbk.{s1_from}
use Rattle.joining.proofs.Laws.{s1_stop, s1_on}
use Rattle.joining.proofs.cbk.RightSides.s1_from.Goals as goal

pub returns-then-settled : goal.returns-then-settled
returns-then-settled c =
    let a = c.args in
    let s = a.self in
    let l = c.loop-i in
    let h : s.nm + 1 - l.i ≡ suc (s.nm - l.i) = omega arith in
    s1_stop _ s.m s.ip a.k (s.nm - l.i) l.i _ _ l.s1 l.sw (c.requires.holds l.i (omega arith) (omega arith)) c.add_term-s1.ensures (sym c.settled.ensures ∙ c.if-settled.true) ∙ rw h at l.invariant

pub loop-i-preserved : goal.loop-i-preserved
loop-i-preserved c =
    let a = c.args in
    let s = a.self in
    let l = c.loop-i in
    let h : s.nm + 1 - l.i ≡ suc (s.nm - l.i) = omega arith in
    let h' : s.nm + 1 - (l.i + 1) ≡ s.nm - l.i = omega arith in
    rw (h', add-one l.i)
    (s1_on _ s.m s.ip a.k (s.nm - l.i) l.i _ _ l.s1 l.sw (c.requires.holds l.i (omega arith) (omega arith)) c.add_term-s1.ensures (sym c.settled.ensures ∙ c.if-settled.false) ∙ rw h at l.invariant)

pub returns : goal.returns
unfolding s1_from
returns c = let h : c.args.self.nm + 1 - c.loop-i.i ≡ 0 = omega arith in rw h at c.loop-i.invariant

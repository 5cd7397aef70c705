-- `expansion::sckb::PowerSums::together` meets its contract. Assumes nothing.
use Prim.Native.Nat.{◌+◌, ◌-◌}
use mathlib.Core.Path.{◌≡◌, refl, ◌∙◌}
use native.Mathlib.Omega.{arith}
use Rattle.expansion.proofs.Abreast.{rest_on}
use Rattle.expansion.proofs.sckb.PowerSums.together.Goals as goal

pub loop-i-init : goal.loop-i-init
loop-i-init c = (refl, refl, refl, refl)

pub returns-then-one_settled : goal.returns-then-one_settled
returns-then-one_settled c = record { end_alike = c.loop-i.invariant; k_lt_i = (omega arith, omega arith) }

pub loop-i-preserved : goal.loop-i-preserved
loop-i-preserved c = let a = c.args in
    let l = c.loop-i in
    let v = c.one_settled.ensures c.if-one_settled.false in
    let e = l.invariant in (
      rest_on _ a.self.m a.self.ip a.self.nm a.k l.i _ l.terms.a _ (omega arith) (omega arith) c.next_term.ensures v.0 ∙ e.0,
      rest_on _ a.self.m a.self.ip a.self.nm (a.k + 1) (l.i + 1) _ l.terms.b _ (omega arith) (omega arith) c.next_term-in-loop-i.ensures v.1 ∙ e.1,
      rest_on _ a.self.m a.self.ip a.self.nm (a.k + 2) (l.i + 2) _ l.terms.c _ (omega arith) (omega arith) c.next_term-in-loop-i-2.ensures v.2 ∙ e.2,
      rest_on _ a.self.m a.self.ip a.self.nm (a.k + 3) (l.i + 3) _ l.terms.d _ (omega arith) (omega arith) c.next_term-in-loop-i-3.ensures v.3 ∙ e.3,
    )

pub returns : goal.returns
returns c = let h : c.loop-i.i ≡ c.args.self.nm - 2 = omega arith in record { end_alike = rw (← h) c.loop-i.invariant; k_lt_i = (omega arith, omega arith) }

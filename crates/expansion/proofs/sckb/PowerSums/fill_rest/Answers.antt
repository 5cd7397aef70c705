-- `expansion::sckb::PowerSums::fill_rest` meets its contract. The invariant: the coefficients before the next are in place. Assumes nothing.
use Prim.Native.Nat.{◌<◌}
use native.Mathlib.Omega.{arith}
use Rattle.expansion.proofs.Laws.{put_on}
use Rattle.expansion.proofs.sckb.PowerSums.fill_rest.Goals as goal

pub loop-at-init : goal.loop-at-init
loop-at-init c = (omega arith, omega arith, c.requires.1)

pub put-at-requires : goal.put-at-requires
put-at-requires c = let s = c.loop-at.invariant.2 in (omega arith, rw (← c.args.self.regular) at s.4)

pub loop-at-smaller : goal.loop-at-smaller
loop-at-smaller c = omega (arith, c.put-at.ensures.k_value.0, c.loop-at-test.true, c.requires.0)

pub loop-at-preserved : goal.loop-at-preserved
loop-at-preserved c = let a = c.args in
    let l = c.loop-at in
    let p = c.put-at.ensures in
    let fits : l.at.k < a.self.nm = omega (arith, c.loop-at-test.true, c.requires.0) in (
      omega (arith, p.k_value.0, l.invariant.0),
      omega (arith, p.k_value.0, c.loop-at-test.true),
      put_on a.df.now a.self.m a.self.ip a.self.nm a.self.reg l.at c.put-at.result _ _ _ c.args.self.regular l.invariant.2 fits c.sum_of-p.ensures p.ck_after p.k_value.0 p.k_value.1 p.k_value.2 p.k_value.3,
    )

pub returns : goal.returns
returns c = let l = c.loop-at.invariant in record { stands = l.2; k_value = omega (arith, l.0, l.1, c.loop-at-test.false) }

-- `expansion::sckb::PowerSums::fill_fours` meets its contract. The invariant: the coefficients before the next are in place. Assumes nothing.
use Prim.Native.Nat.{◌+◌, ◌≤◌}
use mathlib.Core.Path.{◌≡◌}
use native.Mathlib.Omega.{arith}
use Rattle.expansion.proofs.Laws.{put_on}
use Rattle.expansion.proofs.sckb.PowerSums.fill_fours.Goals as goal

pub loop-at-init : goal.loop-at-init
loop-at-init c = (omega arith, omega arith, c.requires.1)

pub put-at1-requires : goal.put-at1-requires
put-at1-requires c = let s = c.loop-at.invariant.2 in (omega arith, rw (← c.args.self.regular) at s.4)

pub put-at2-requires : goal.put-at2-requires
put-at2-requires c = let p = c.put-at1.ensures in (omega (arith, p.k_value.0), p.k_value.3)

pub put-at3-requires : goal.put-at3-requires
put-at3-requires c = let p = c.put-at1.ensures in let q = c.put-at2.ensures in (omega (arith, p.k_value.0, q.k_value.0), q.k_value.3)

pub put-at-requires : goal.put-at-requires
put-at-requires c = let p = c.put-at1.ensures in let q = c.put-at2.ensures in let r = c.put-at3.ensures in (omega (arith, p.k_value.0, q.k_value.0, r.k_value.0), r.k_value.3)

pub loop-at-smaller : goal.loop-at-smaller
loop-at-smaller c = let p = c.put-at1.ensures in let q = c.put-at2.ensures in let r = c.put-at3.ensures in let s = c.put-at.ensures in omega (arith, p.k_value.0, q.k_value.0, r.k_value.0, s.k_value.0, c.loop-at-test.true, c.requires.0)

pub loop-at-preserved : goal.loop-at-preserved
loop-at-preserved c = let a = c.args in
    let l = c.loop-at in
    let f = c.four_sums-s.ensures in
    let p = c.put-at1.ensures in
    let q = c.put-at2.ensures in
    let r = c.put-at3.ensures in
    let s = c.put-at.ensures in
    let g = c.args.self.regular in
    let h2 : c.put-at2.result.k ≡ l.at.k + 2 = omega (arith, p.k_value.0, q.k_value.0) in
    let h3 : c.put-at3.result.k ≡ l.at.k + 3 = omega (arith, h2, r.k_value.0) in
    let fits : l.at.k + 4 ≤ a.self.nm = omega (arith, c.loop-at-test.true, c.requires.0) in
    let s1 = put_on a.df.now a.self.m a.self.ip a.self.nm a.self.reg l.at c.put-at1.result _ _ _ g l.invariant.2 (omega (arith, fits)) f.0 p.ck_after p.k_value.0 p.k_value.1 p.k_value.2 p.k_value.3 in
    let s2 = put_on a.df.now a.self.m a.self.ip a.self.nm a.self.reg c.put-at1.result c.put-at2.result _ _ _ g s1 (omega (arith, p.k_value.0, fits)) (rw (p.k_value.0, p.k_value.2) f.1) q.ck_after q.k_value.0 q.k_value.1 q.k_value.2 q.k_value.3 in
    let s3 = put_on a.df.now a.self.m a.self.ip a.self.nm a.self.reg c.put-at2.result c.put-at3.result _ _ _ g s2 (omega (arith, h2, fits)) (rw (h2, q.k_value.2) f.2) r.ck_after r.k_value.0 r.k_value.1 r.k_value.2 r.k_value.3 in (
      omega (arith, h3, s.k_value.0, l.invariant.0),
      omega (arith, h3, s.k_value.0, c.loop-at-test.true),
      put_on a.df.now a.self.m a.self.ip a.self.nm a.self.reg c.put-at3.result c.put-at.result _ _ _ g s3 (omega (arith, h3, fits)) (rw (h3, r.k_value.2) f.3) s.ck_after s.k_value.0 s.k_value.1 s.k_value.2 s.k_value.3,
    )

pub returns : goal.returns
returns c = let l = c.loop-at.invariant in record { stands = l.2; k_le_k = (l.0, l.1) }

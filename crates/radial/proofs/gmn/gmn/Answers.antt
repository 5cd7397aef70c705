-- `radial::gmn::gmn` meets its contract. Assumes nothing.
use Rattle.std.proofs.Common.{rules}
use Rattle.radial_sums.specs.Rmn1.{to_half}
use Rattle.radial.specs.Gmn.{value_term, slope_term}
use Rattle.radial.proofs.GmnLaws.{gmn_is}
use Rattle.radial.proofs.gmn.gmn.Goals as goal

pub returns : goal.returns
unfolding to_half
returns c =
    let a = c.args in
    let ip = c.parity-ip.ensures.value in
    gmn_is _ a.mode.m a.mode.n a.mode.c a.x _ _ _ _ _ c.terms-nm.ensures.value c.half_of_m-xm.ensures (c.sum-f.ensures (value_term a.bk.now a.x) (λ k r h l p. search rules)) (rw ip at c.power.ensures) (rw ip at (c.sum-d.ensures (slope_term a.bk.now c.parity-ip.result a.x) (λ k r h l p. search rules)))

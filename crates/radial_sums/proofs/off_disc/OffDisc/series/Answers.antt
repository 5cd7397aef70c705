-- `radial_sums::off_disc::OffDisc::series` meets its contract. Assumes nothing.
use native.Mathlib.Omega.{arith}
use Rattle.radial_sums.proofs.Laws.{common_fits}
use Rattle.radial_sums.proofs.off_disc.OffDisc.series.Goals as goal

pub invariant_of-result : goal.invariant_of-result
invariant_of-result c =
    let s = c.args.self.now in
    let f = common_fits s.df.now s.mode.m s.mode.n s.mode.c s.common s.mode.usable s.common_value s.places in
    let o = c.offset.ensures.upper_bound in
    record { bounded = (s.mode.usable.0, c.parity.ensures.upper_bound, omega (arith, o), f.1, f.2) }

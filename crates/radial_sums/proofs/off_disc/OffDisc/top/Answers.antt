-- `radial_sums::off_disc::OffDisc::top` meets its contract. Assumes nothing.
use native.Mathlib.Omega.{arith}
use Rattle.radial_sums.proofs.Laws.{common_fits}
use Rattle.radial_sums.proofs.off_disc.OffDisc.top.Goals as goal

pub overflow_mul-result : goal.overflow_mul-result
overflow_mul-result c =
    let s = c.args.self.now in
    let f = common_fits s.df.now s.mode.m s.mode.n s.mode.c s.common s.mode.usable s.common_value s.places in
    omega (arith, f.1)

pub overflow_add-result : goal.overflow_add-result
overflow_add-result c =
    let s = c.args.self.now in
    let f = common_fits s.df.now s.mode.m s.mode.n s.mode.c s.common s.mode.usable s.common_value s.places in
    omega (arith, f.2)

pub returns-clause-places : goal.returns-clause-places
returns-clause-places c =
    let s = c.args.self.now in
    let f = common_fits s.df.now s.mode.m s.mode.n s.mode.c s.common s.mode.usable s.common_value s.places in
    (omega (arith, f.0), omega (arith, f.2))

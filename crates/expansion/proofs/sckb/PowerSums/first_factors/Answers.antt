-- `expansion::sckb::PowerSums::first_factors` meets its contract. Assumes nothing.
use mathlib.Core.Path.{◌∙◌}
use native.Mathlib.Omega.{arith}
use Rattle.expansion.specs.Sckb.{first_factor}
use Rattle.expansion.proofs.Abreast.{factor_is}
use Rattle.expansion.proofs.sckb.PowerSums.first_factors.Goals as goal

pub returns : goal.returns
unfolding first_factor
returns c = let a = c.args in
    let w = c.rise_four.ensures in
    let p = c.rise_four_by_half-p.ensures in (
      p.0 ∙ rw w.0,
      factor_is a.self.m a.self.ip a.k 1 _ _ _ _ _ _ w.1 (omega arith) p.1 (omega arith) c.rise_by.ensures,
      factor_is a.self.m a.self.ip a.k 2 _ _ _ _ _ _ w.2 (omega arith) p.2 (omega arith) c.rise_by-2.ensures,
      factor_is a.self.m a.self.ip a.k 3 _ _ _ _ _ _ w.3 (omega arith) p.3 (omega arith) c.rise_by-3.ensures,
    )

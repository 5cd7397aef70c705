-- `expansion::sckb::PowerSums::four_sums` meets its contract. Assumes nothing.
use Prim.Native.Nat.{◌+◌}
use mathlib.Core.Path.{◌∙◌}
use native.Mathlib.Omega.{arith}
use Rattle.expansion.proofs.Abreast.{sum_from_lem}
use Rattle.expansion.proofs.sckb.PowerSums.four_sums.Goals as goal

pub all_concluded-requires : goal.all_concluded-requires
all_concluded-requires c = let e = c.together-reached.ensures in (e.k_lt_i.0, e.k_lt_i.1, e.end_alike)

pub returns : goal.returns
returns c = let a = c.args in
    let t = c.terms_past_first-first.ensures in
    let s = c.all_concluded.ensures in (
      s.0 ∙ sum_from_lem _ a.self.m a.self.ip a.self.nm a.k a.self.reg _ _ (omega arith) t.0,
      s.1 ∙ sum_from_lem _ a.self.m a.self.ip a.self.nm (a.k + 1) a.self.reg _ _ (omega arith) t.1,
      s.2 ∙ sum_from_lem _ a.self.m a.self.ip a.self.nm (a.k + 2) a.self.reg _ _ (omega arith) t.2,
      s.3 ∙ sum_from_lem _ a.self.m a.self.ip a.self.nm (a.k + 3) a.self.reg _ _ (omega arith) t.3,
    )

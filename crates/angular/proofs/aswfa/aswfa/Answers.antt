-- `angular::aswfa::aswfa` meets its contract. Assumes nothing.
use Rattle.angular.proofs.Laws.{aswfa_is}
use Rattle.angular.proofs.aswfa.aswfa.Goals as goal

pub returns : goal.returns
returns c = let a = c.args in
    let s = c.with_signs.ensures in
    aswfa_is a.mode.m a.mode.n a.mode.c a.cv a.kd a.x c.nm2_of-nm2.result _ _ c.in_stages-p.result _ _ c.nm2_of-nm2.ensures.value c.sdmn-df.ensures c.abs.ensures c.in_stages-p.ensures s.0 s.1

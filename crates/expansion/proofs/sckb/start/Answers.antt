-- `expansion::sckb::start` meets its contract. The power of 1/2 is exact. Assumes nothing.
use mathlib.Core.Path.{refl}
use native.Mathlib.Omega.{arith}
use Rattle.arith.proofs.Exact.{half_power}
use Rattle.expansion.proofs.sckb.start.Goals as goal

pub returns : goal.returns
returns c = let s = c.of-sums in
    (refl, rw (c.power.ensures, half_power c.args.mode.m (omega arith)), refl, rw (← s.ensures.2, ← s.ensures.0, ← s.result.regular) (rw (← s.ensures.0) at c.factorial.ensures))

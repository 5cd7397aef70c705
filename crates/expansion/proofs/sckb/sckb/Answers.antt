-- `expansion::sckb::sckb` meets its contract. Assumes nothing.
use native.Mathlib.Omega.{arith}
use Rattle.expansion.specs.Sums.{blank}
use Rattle.expansion.proofs.First.{stands_first, stands_last}
use Rattle.expansion.proofs.sckb.sckb.Goals as goal

pub go_on-requires : goal.go_on-requires
unfolding blank
go_on-requires c = let a = c.args.mode in let s = c.start.ensures in stands_first _ a.m a.n a.c _ _ s.0 s.1 s.2 s.3 c.filled-ck.ensures

pub returns : goal.returns
returns c = let a = c.args.mode in let e = c.go_on.ensures in stands_last _ a.m a.n a.c c.go_on.result _ e.stands_for (omega (arith, e.k_value, c.power_terms.ensures.value))

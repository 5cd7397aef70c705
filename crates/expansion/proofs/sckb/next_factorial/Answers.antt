-- `expansion::sckb::next_factorial` meets its contract. Assumes nothing.
use native.Mathlib.Omega.{arith}
use Rattle.expansion.specs.Sckb.{factorial}
use Rattle.expansion.proofs.Laws.{factorial_on}
use Rattle.expansion.proofs.sckb.next_factorial.Goals as goal

pub returns-then-n-eq0 : goal.returns-then-n-eq0
unfolding factorial
returns-then-n-eq0 c = rw c.if-n-eq0.true (rw c.if-n-eq0.true at c.requires.1)

pub returns : goal.returns
returns c = rw c.requires.1 (factorial_on c.args.reg c.args.n (omega arith))

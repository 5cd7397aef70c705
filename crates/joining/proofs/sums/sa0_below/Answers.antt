-- `joining::sums::sa0_below` meets its contract. The power of 2 is exact. Assumes nothing.
use native.Mathlib.Omega.{arith}
use Rattle.arith.proofs.Exact.{two_power}
use Rattle.joining.specs.Sums.{sa0_below}
use Rattle.joining.proofs.sums.sa0_below.Goals as goal

pub returns : goal.returns
unfolding sa0_below
returns c = rw (c.rise-r3.ensures, c.power.ensures, two_power c.args.n (omega arith), c.parity_power.ensures)

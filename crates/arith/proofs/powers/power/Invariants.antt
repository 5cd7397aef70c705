-- The loop of `arith::powers::power`: p is the power to the number of turns so far.
use Rattle.std.proofs.Common.{◌≡◌}
use Rattle.arith.specs.Powers.{power}
use Rattle.arith.proofs.powers.power.Given as goal

abbrev pub invariant-loop : goal.invariant-loop
invariant-loop l = l.p ≡ power l.y l.counter

-- `arith::powers::power` meets its contract. Assumes nothing.
use Rattle.std.proofs.Common.{◌≡◌, refl, add-one, arith}
use lib.Ieee.{of_bits}
use Rattle.arith.specs.Powers.{power}
use Rattle.arith.proofs.powers.power.Goals as goal

pub loop-init : goal.loop-init
unfolding power of_bits
loop-init c = refl

pub loop-preserved : goal.loop-preserved
unfolding power
loop-preserved c = rw (add-one c.loop.counter, c.loop.invariant)

pub returns : goal.returns
returns c =
    let l = c.loop in
    let h : l.counter ≡ c.args.k = omega arith in
    rw (← h) l.invariant

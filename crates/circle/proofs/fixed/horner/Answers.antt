-- `fixed::horner` meets its contract. Assumes nothing.
use Prim.Native.Nat.{◌-◌, ◌^◌, ◌/◌, ◌≤◌}
use Rattle.circle.specs.Inside.Horner.{IsHorner}
use Rattle.circle.specs.Inside.FixedValues.{horner}
use Rattle.circle.proofs.Alternate.{is_horner}
use Rattle.circle.proofs.fixed.horner.Goals as goal
use Rattle.circle.proofs.fixed.horner.Goals.{After-high}

facts : (c : After-high) → (c.high.result / c.args.n ≤ 2 ^ 63) × IsHorner c.args.g c.args.q c.args.n (2 ^ 63 - c.high.result / c.args.n)
facts c = is_horner c.args.g c.args.q c.args.n c.high.result c.requires.2 c.requires.0 c.requires.1 c.high.ensures.high

pub returns : goal.returns
unfolding horner
returns c = record { horner = (facts c).1; value = rw c.high.ensures.value }

-- `small::Fraction::square` meets its contract. Assumes nothing.
use Rattle.sines.specs.Inside.SmallValues as SmallValues
use Rattle.sines.proofs.small.Square.{is_square}
use Rattle.sines.proofs.small.Fraction.square.Goals as goal

pub returns : goal.returns
unfolding SmallValues.own_square
returns c = record { square = is_square c.args.self.m c.args.self.k c.high.result c.requires c.high.ensures.high; value = c.high.ensures.value }

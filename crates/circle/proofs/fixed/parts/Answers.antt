-- `fixed::parts` meets its contract. Assumes nothing.
use mathlib.Core.Path.{refl}
use lib.Dec.{leb→le}
use lib.IntN.{pos}
use lib.Ieee.{binary64, fin, of_bits, of_int}
use mathlib.Core.Bool.{false}
use Rattle.circle.specs.Inside.FixedValues.{parts}
use Rattle.circle.proofs.fixed.Exactly.{whole, over_power}
use Rattle.circle.proofs.fixed.parts.Goals as goal

pub returns : goal.returns
unfolding parts of_bits
returns c =
    let n = c.args.n in
    record { has_value = over_power (of_int binary64 (pos n)) (fin false 1 (pos 52)) n 0 52 c.requires (leb→le 52 1022 tt) (whole n c.requires) (refl, refl); value = refl }

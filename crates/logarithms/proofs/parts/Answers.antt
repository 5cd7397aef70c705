-- `logarithms::parts` meets its contract. Assumes nothing.
use mathlib.Core.Path.{refl}
use mathlib.Core.Bool.{false}
use native.Mathlib.Omega.{arith}
use lib.Dec.{leb→le}
use lib.IntN.{pos}
use lib.Ieee.{binary64, fin, of_bits, of_int}
use Rattle.logarithms.specs.Inside.LogarithmValues.{parts}
use Rattle.circle.proofs.fixed.Exactly.{whole, over_power}
use Rattle.logarithms.proofs.parts.Goals as goal

pub returns : goal.returns
unfolding parts of_bits
returns c =
    let n = c.args.n in
    record { has_value = over_power (of_int binary64 (pos n)) (fin false 1 (pos 22)) n 0 22 (omega arith) (leb→le 22 1022 tt) (whole n (omega arith)) (refl, refl); value = refl }

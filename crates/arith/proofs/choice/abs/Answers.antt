-- `arith::choice::abs` meets its contract (`proofs/choice/Sign.antt`). Assumes nothing.
use Rattle.std.proofs.Common.{T, sym, subst}
use lib.Ieee.{binary64, fits}
use Rattle.arith.proofs.choice.Sign.{abs_nan, cleared_is, cleared_no_nan}
use Rattle.arith.proofs.Numbers.{a_number, no_number}
use Rattle.arith.proofs.choice.abs.Goals as goal
use Rattle.arith.proofs.choice.abs.Goals.{Start}

held : (c : Start) → T (fits binary64 c.args.x)
held c = subst T (sym c.well_formed.0.1) tt

pub float_to_bits-result : goal.float_to_bits-result
float_to_bits-result c = a_number c.args.x c.if-x.true

pub float_from_bits-result : goal.float_from_bits-result
float_from_bits-result c = cleared_no_nan c.args.x (held c.before) (a_number c.args.x c.if-x.true)

pub returns-then-x : goal.returns-then-x
returns-then-x c = cleared_is c.args.x (held c.before)

pub returns-else-x : goal.returns-else-x
returns-else-x c = abs_nan c.args.x (no_number c.args.x c.if-x.false)

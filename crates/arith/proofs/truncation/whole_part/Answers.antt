-- `arith::truncation::whole_part` meets its contract: what is not below zero truncates to a whole number, which the machine reads back from 32 bits. Assumes nothing.
use Rattle.std.proofs.Common.{◌≡◌, pos, nat_abs, ap, ◌∙◌, arith, to_z-of_z, w32, to_z, of_z}
use lib.Ieee.{of_bits}
use lib.Ieee.Casts.{to_signed_in, to_unsigned-lt}
use Rattle.arith.specs.Truncation.{whole_part}
use Rattle.arith.proofs.Laws.{truncate_whole, whole_none}
use Rattle.arith.proofs.truncation.whole_part.Goals as goal
use Rattle.arith.proofs.truncation.whole_part.Goals.{After-truncate}

-- what the call returned, as the machine reads it back
is : (c : After-truncate) → to_z w32 (of_z w32 c.truncate.result) ≡ pos (whole_part c.args.x)
unfolding of_bits
is c =
    let x = c.args.x in
    to_z-of_z {w = w32} (record { sfits = rw c.truncate.ensures (to_signed_in 31 x) }) ∙ c.truncate.ensures ∙ truncate_whole x c.if-x.false

pub returns-then-x : goal.returns-then-x
unfolding of_bits
returns-then-x c = whole_none c.args.x c.if-x.true

pub overflow_cast-result : goal.overflow_cast-result
overflow_cast-result c = let small = to_unsigned-lt 31 c.args.x in rw (is c) (tt, omega (arith, small))

pub returns : goal.returns
returns c = ap nat_abs (is c)

-- `arith::truncation::truncate` meets its contract (`proofs/truncation/Range.antt`). Assumes nothing.
use Rattle.std.proofs.Common.{◌≡◌, ◌∙◌, to_z-of_z, w32, w64, SFits, to_z, of_z}
use lib.Ieee.{of_bits, neg, to_signed}
use lib.Ieee.Casts.{to_signed_in}
use Rattle.arith.proofs.truncation.Range.{in_range, in_wider, below_range, above_range, truncate_nan}
use Rattle.arith.proofs.Numbers.{no_number}
use Rattle.arith.proofs.truncation.truncate.Goals as goal
use Rattle.arith.proofs.truncation.truncate.Goals.{After-truncating_f64_to_i64}

-- what the call returned
is : (c : After-truncating_f64_to_i64) → c.truncating_f64_to_i64.result ≡ to_signed 31 c.args.x
unfolding of_bits neg
is c = c.truncating_f64_to_i64.ensures ∙ in_range c.args.x c.if-x.true c.if-x-2.true

small : (c : After-truncating_f64_to_i64) → SFits w32 c.truncating_f64_to_i64.result
small c = record { sfits = rw (is c) (to_signed_in 31 c.args.x) }

wide : (c : After-truncating_f64_to_i64) → to_z w64 (of_z w64 c.truncating_f64_to_i64.result) ≡ c.truncating_f64_to_i64.result
wide c = to_z-of_z {w = w64} (record { sfits = rw c.truncating_f64_to_i64.ensures (to_signed_in 63 c.args.x) })

pub truncating_f64_to_i64-requires : goal.truncating_f64_to_i64-requires
unfolding of_bits neg
truncating_f64_to_i64-requires c =
    let within = in_wider c.args.x c.if-x.true c.if-x-2.true in
    record { lower_bound = within.0; upper_bound = within.1 }

pub overflow_cast-result : goal.overflow_cast-result
overflow_cast-result c = rw (wide c) (small c)

pub returns-then-x-2 : goal.returns-then-x-2
returns-then-x-2 c = rw (wide c) (to_z-of_z {w = w32} (small c) ∙ is c)

pub returns-else-x-2 : goal.returns-else-x-2
unfolding of_bits neg
returns-else-x-2 c = below_range c.args.x c.if-x.true c.if-x-2.false

pub returns-then-x-3 : goal.returns-then-x-3
unfolding of_bits
returns-then-x-3 c = above_range c.args.x c.if-x.false c.if-x-3.true

pub returns-else-x-3 : goal.returns-else-x-3
returns-else-x-3 c = rw (no_number c.args.x c.if-x-3.false) truncate_nan

-- `records::line::start_of_mode` meets its contract. A u16 has at most 5 digits. Assumes nothing.
use native.Mathlib.Omega.{arith}
use Rattle.records.proofs.Laws.{put_then, decimal_length}
use Rattle.records.proofs.line.start_of_mode.Goals as goal

pub number-b-requires : goal.number-b-requires
number-b-requires c = omega (arith, decimal_length 4 c.args.m (omega (arith, c.ranges.m.fits)))

pub number-requires : goal.number-requires
number-requires c = omega (arith, decimal_length 4 c.args.m (omega (arith, c.ranges.m.fits)), decimal_length 4 c.args.n (omega (arith, c.ranges.n.fits)))

pub returns : goal.returns
returns c = record { put = put_then (put_then c.start-a.ensures.put c.number-b.ensures) c.number.ensures; upper_bound = omega (arith, decimal_length 4 c.args.m (omega (arith, c.ranges.m.fits)), decimal_length 4 c.args.n (omega (arith, c.ranges.n.fits))) }

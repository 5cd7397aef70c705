-- `records::line::start` meets its contract. A u64 has at most 20 digits. Assumes nothing.
use native.Mathlib.Omega.{arith}
use Rattle.records.proofs.Laws.{put_then, decimal_length}
use Rattle.records.proofs.line.start.Goals as goal

pub number-requires : goal.number-requires
number-requires c =
    let s = c.before in
    omega (arith, decimal_length 19 s.args.index (omega (arith, s.ranges.index.fits)))

pub returns : goal.returns
returns c =
    let s = c.before in
    record { put = put_then c.byte-a.ensures c.number.ensures; upper_bound = omega (arith, decimal_length 19 s.args.index (omega (arith, s.ranges.index.fits))) }

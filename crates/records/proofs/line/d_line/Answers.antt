-- `records::line::d_line` meets its contract. A u16 has at most 5 digits. Assumes nothing.
use native.Mathlib.Omega.{arith}
use Rattle.records.proofs.Laws.{put_then, decimal_length}
use Rattle.records.proofs.line.d_line.Goals as goal

pub number-b-requires : goal.number-b-requires
number-b-requires c =
    let s = c.before in
    omega (arith, decimal_length 4 s.args.mode (omega (arith, s.ranges.mode.fits)))

pub double-c-requires : goal.double-c-requires
double-c-requires c =
    let s = c.before in
    omega (arith, decimal_length 4 s.args.mode (omega (arith, s.ranges.mode.fits)))

pub byte-requires : goal.byte-requires
byte-requires c =
    let s = c.before in
    omega (arith, decimal_length 4 s.args.mode (omega (arith, s.ranges.mode.fits)))

pub returns : goal.returns
returns c =
    let s = c.before in
    record { put = put_then (put_then (put_then c.start-a.ensures.put c.number-b.ensures) c.double-c.ensures.put) c.byte.ensures; upper_bound = omega (arith, decimal_length 4 s.args.mode (omega (arith, s.ranges.mode.fits))) }

-- `records::line::r_line` meets its contract. A u8 has at most 3 digits. Assumes nothing.
use native.Mathlib.Omega.{arith}
use Rattle.records.proofs.Laws.{put_then, decimal_length}
use Rattle.records.proofs.line.r_line.Goals as goal

pub number-b-requires : goal.number-b-requires
number-b-requires c =
    let s = c.before in
    omega (arith, decimal_length 2 s.args.refusal (omega (arith, s.ranges.refusal.fits)))

pub byte-requires : goal.byte-requires
byte-requires c =
    let s = c.before in
    omega (arith, decimal_length 2 s.args.refusal (omega (arith, s.ranges.refusal.fits)))

pub returns : goal.returns
returns c =
    let s = c.before in
    record { put = put_then (put_then c.start-a.ensures.put c.number-b.ensures) c.byte.ensures; upper_bound = omega (arith, decimal_length 2 s.args.refusal (omega (arith, s.ranges.refusal.fits))) }

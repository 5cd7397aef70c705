-- `records::line::z_line` meets its contract. A u16 has at most 5 digits, a u8 at most 3. Assumes nothing.
use native.Mathlib.Omega.{arith}
use Rattle.records.proofs.Laws.{put_then, decimal_length}
use Rattle.records.proofs.line.z_line.Goals as goal

pub number-b-requires : goal.number-b-requires
number-b-requires c =
    let s = c.before in
    omega (arith, decimal_length 4 s.args.mode (omega (arith, s.ranges.mode.fits)))

pub number-c-requires : goal.number-c-requires
number-c-requires c =
    let s = c.before in
    omega (arith, decimal_length 4 s.args.mode (omega (arith, s.ranges.mode.fits)), decimal_length 2 s.args.substituted (omega (arith, s.ranges.substituted.fits)))

pub byte-requires : goal.byte-requires
byte-requires c =
    let s = c.before in
    omega (arith, decimal_length 4 s.args.mode (omega (arith, s.ranges.mode.fits)), decimal_length 2 s.args.substituted (omega (arith, s.ranges.substituted.fits)))

pub returns : goal.returns
returns c =
    let s = c.before in
    record { put = put_then (put_then (put_then c.start-a.ensures.put c.number-b.ensures) c.number-c.ensures) c.byte.ensures; upper_bound = omega (arith, decimal_length 4 s.args.mode (omega (arith, s.ranges.mode.fits)), decimal_length 2 s.args.substituted (omega (arith, s.ranges.substituted.fits))) }

-- `records::line::v_line` meets its contract. A u16 has at most 5 digits, a u32 at most 10. Assumes nothing.
use native.Mathlib.Omega.{arith}
use Rattle.records.proofs.Laws.{put_then, decimal_length}
use Rattle.records.proofs.line.v_line.Goals as goal

pub number-b-requires : goal.number-b-requires
number-b-requires c =
    let s = c.before in
    omega (arith, decimal_length 4 s.args.mode (omega (arith, s.ranges.mode.fits)))

pub number-c-requires : goal.number-c-requires
number-c-requires c =
    let s = c.before in
    omega (arith, decimal_length 4 s.args.mode (omega (arith, s.ranges.mode.fits)), decimal_length 9 s.args.steps (omega (arith, s.ranges.steps.fits)))

pub bracket-requires : goal.bracket-requires
bracket-requires c =
    let s = c.before in
    omega (arith, decimal_length 4 s.args.mode (omega (arith, s.ranges.mode.fits)), decimal_length 9 s.args.steps (omega (arith, s.ranges.steps.fits)))

pub returns : goal.returns
returns c =
    let s = c.before in
    record { put = put_then (put_then (put_then c.start-a.ensures.put c.number-b.ensures) c.number-c.ensures) c.bracket.ensures.put; upper_bound = omega (arith, decimal_length 4 s.args.mode (omega (arith, s.ranges.mode.fits)), decimal_length 9 s.args.steps (omega (arith, s.ranges.steps.fits))) }

-- `factor_table::put_lines` meets its contract. The invariant: the lines of the numbers so far are put. Assumes nothing.
use mathlib.Core.Path.{◌≡◌, refl}
use native.Mathlib.Omega.{arith}
use native.Mathlib.Numerals.{add-one}
use lib.ListN.{length}
use Rattle.records.proofs.Laws.{put_nothing, put_then, put_length}
use Rattle.factor_table.specs.Printed.{bits_lines}
use Rattle.factor_table.proofs.put_lines.Goals as goal

pub loop-number-init : goal.loop-number-init
unfolding bits_lines
loop-number-init c = (refl, refl, put_nothing _ 0 (omega arith))

pub loop-number-preserved : goal.loop-number-preserved
unfolding bits_lines
loop-number-preserved c =
    let l = c.loop-number in
    let p = c.bits_line-at.ensures in
    let q = put_then l.invariant.2 p.put in
    (put_length q, omega (arith, p.value), rw (add-one l.number-index) q)

pub returns : goal.returns
returns c =
    let l = c.loop-number in
    let all : l.number-index ≡ length c.args.numbers.now = omega arith in
    rw (← all) l.invariant.2

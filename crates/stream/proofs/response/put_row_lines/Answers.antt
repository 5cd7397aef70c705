-- `stream::response::put_row_lines` meets its contract. The invariant: the lines of the modes so far are put. Assumes nothing.
use mathlib.Core.Path.{◌≡◌, refl}
use native.Mathlib.Omega.{arith}
use native.Mathlib.Numerals.{add-one}
use Rattle.records.proofs.Laws.{put_nothing, put_then, put_length}
use Rattle.stream.specs.Response.{row_lines}
use Rattle.stream.proofs.response.put_row_lines.Goals as goal

pub loop-j-init : goal.loop-j-init
unfolding row_lines
loop-j-init c = (refl, omega arith, put_nothing _ _ (omega arith))

pub loop-j-preserved : goal.loop-j-preserved
unfolding row_lines
loop-j-preserved c =
    let l = c.loop-j in
    let p = c.v_line-after.ensures in
    let z = c.z_line-used.ensures in
    let q = put_then (put_then l.invariant.2 p.put) z.put in
    (put_length q, omega (arith, p.upper_bound, z.upper_bound), rw (add-one l.j) q)

pub returns : goal.returns
returns c =
    let l = c.loop-j in
    let h : l.j ≡ c.args.count = omega arith in
    record { put = rw (← h) l.invariant.2; upper_bound = omega arith }

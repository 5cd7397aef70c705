-- `stream::response::respond_dlmf_row` meets its contract. Assumes nothing.
use native.Mathlib.Omega.{arith}
use Rattle.stream.proofs.Laws as laws
use Rattle.stream.proofs.response.respond_dlmf_row.Goals as goal

pub overflow_sub-mode : goal.overflow_sub-mode
overflow_sub-mode c =
    let ok = laws.dlmf_row_accepted c.args.index c.args.kind c.args.mode c.args.allowance _ c.filled-values.ensures _ _ c.dlmf_row-answer.ensures (laws.code_ok c.in-Ok.is) in
    omega arith

pub put_d_lines-requires : goal.put_d_lines-requires
put_d_lines-requires c =
    let ok = laws.dlmf_row_accepted c.args.index c.args.kind c.args.mode c.args.allowance _ c.filled-values.ensures _ _ c.dlmf_row-answer.ensures (laws.code_ok c.in-Ok.is) in
    omega arith

pub returns-in-Ok : goal.returns-in-Ok
returns-in-Ok c =
    let ok = laws.dlmf_row_accepted c.args.index c.args.kind c.args.mode c.args.allowance _ c.filled-values.ensures _ _ c.dlmf_row-answer.ensures (laws.code_ok c.in-Ok.is) in
    let p = c.put_d_lines.ensures in
    record { put = laws.put_same (laws.dlmf_filled c.args.index c.args.kind c.args.mode c.args.allowance _ c.filled-values.ensures _ _ c.dlmf_row-answer.ensures (laws.code_ok c.in-Ok.is)) p.put; upper_bound = omega (arith, p.upper_bound) }

pub returns-in-Err : goal.returns-in-Err
returns-in-Err c =
    let p = c.r_line.ensures in
    record {
      put = laws.put_same (laws.dlmf_refused c.args.index c.args.kind c.args.mode c.args.allowance _ c.filled-values.ensures _ _ c.dlmf_row-answer.ensures (laws.code_some c.in-Err.is)) (rw (c.number.ensures, ← laws.code_err c.in-Err.is) at p.put);
      upper_bound = omega (arith, p.upper_bound);
    }

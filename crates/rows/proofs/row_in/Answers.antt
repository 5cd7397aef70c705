-- `rows::row_in` meets its contract: the two ways of the definition. Assumes nothing.
use native.Mathlib.Omega.{arith}
use Rattle.requests.proofs.Laws.{accepted, error_code}
use Rattle.rows.proofs.Laws as laws
use Rattle.rows.proofs.row_in.Goals as goal

pub overflow_sub-n : goal.overflow_sub-n
overflow_sub-n c = let s = c.before in let ok = accepted s.args.mode s.requires.not_refused in omega arith

pub zero_row-requires : goal.zero_row-requires
zero_row-requires c = let s = c.before in let ok = accepted s.args.mode s.requires.not_refused in omega arith

pub returns-then-c : goal.returns-then-c
returns-then-c c = laws.zero_way _ _ _ _ _ c.if-c.true c.zero_row.ensures

pub segv-requires-clause-m_bound : goal.segv-requires-clause-m_bound
segv-requires-clause-m_bound c =
    let s = c.before in
    let ok = accepted s.args.mode s.requires.not_refused in
    let e = c.entries-entries.ensures in
    omega arith

pub returns-in_err-segv : goal.returns-in_err-segv
returns-in_err-segv c = laws.bisected_way _ _ _ _ _ _ _ c.if-c.false c.cs-cs.ensures c.entries-entries.ensures (rw (error_code _ _ c.from_residual.ensures.1) c.in_err-segv.ensures)

pub returns : goal.returns
returns c = laws.bisected_way _ _ _ _ _ _ _ c.if-c.false c.cs-cs.ensures c.entries-entries.ensures c.in_ok-segv.ensures

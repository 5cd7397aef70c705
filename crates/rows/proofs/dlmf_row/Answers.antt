-- `rows::dlmf_row` meets its contract. Assumes nothing.
use Prim.Native.Nat.{ℕ}
use mathlib.Core.Path.{refl, sym, ap, ◌∙◌}
use native.Mathlib.Omega.{arith}
use lib.ListN.{length, length-replicate}
use Rattle.arith.specs.Double.{#0}
use Rattle.requests.proofs.Laws.{accepted, some_number, error_code}
use Rattle.rows.proofs.Laws as laws
use Rattle.rows.proofs.dlmf_row.Goals as goal

pub overflow_sub-last : goal.overflow_sub-last
overflow_sub-last c = let ok = accepted c.args.mode (sym c.in_ok-row_refusal.ensures) in omega arith

pub row_in-requires-clause-room : goal.row_in-requires-clause-room
row_in-requires-clause-room c =
    let ok = accepted c.args.mode (sym c.in_ok-row_refusal.ensures) in
    let v = ap length c.filled-values.ensures ∙ length-replicate 200 #0 in
    let s = ap length c.filled-steps.ensures ∙ length-replicate {A = ℕ} 200 0 in
    let w = ap length c.filled-lowers.ensures ∙ length-replicate 200 #0 in
    let u = ap length c.filled-uppers.ensures ∙ length-replicate 200 #0 in
    let f = ap length c.filled-substituted.ensures ∙ length-replicate {A = ℕ} 200 0 in
    omega arith

pub returns-in_err-row_in : goal.returns-in_err-row_in
returns-in_err-row_in c =
    rw (error_code _ _ c.from_residual-in_err-row_in.ensures.1)
    (laws.dlmf_refused _ _ _ _ c.in_ok-row_refusal.ensures c.if-out-last.false _ _ _ _ _ c.filled-values.ensures c.filled-steps.ensures c.filled-lowers.ensures c.filled-uppers.ensures c.filled-substituted.ensures _ c.in_err-row_in.ensures (some_number _))

pub lessen-requires : goal.lessen-requires
lessen-requires c =
    let ok = accepted c.args.mode (sym c.in_ok-row_refusal.ensures) in
    let h = c.if-out-last.false in
    omega arith

pub returns : goal.returns
returns c =
    laws.dlmf_done _ _ _ _ c.in_ok-row_refusal.ensures c.if-out-last.false _ _ _ _ _ c.filled-values.ensures c.filled-steps.ensures c.filled-lowers.ensures c.filled-uppers.ensures c.filled-substituted.ensures _ c.in_ok-row_in.ensures _ _ refl c.cs.ensures c.lessen.ensures

-- `rows::row` meets its contract. Assumes nothing.
use mathlib.Core.Path.{sym}
use native.Mathlib.Omega.{arith}
use Rattle.requests.proofs.Laws.{accepted}
use Rattle.rows.proofs.row.Goals as goal

pub overflow_sub-last : goal.overflow_sub-last
overflow_sub-last c = let ok = accepted c.args.mode (sym c.in_ok-row_refusal.ensures) in omega arith

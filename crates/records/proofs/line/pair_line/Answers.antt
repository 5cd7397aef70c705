-- `records::line::pair_line` meets its contract: one text after another. Assumes nothing.
use native.Mathlib.Omega.{arith}
use Rattle.records.proofs.Laws.{put_then}
use Rattle.records.proofs.line.pair_line.Goals as goal

pub returns : goal.returns
returns c = record { put = put_then (put_then c.start_of_mode-a.ensures.put c.pair-b.ensures.put) c.byte.ensures; upper_bound = omega arith }

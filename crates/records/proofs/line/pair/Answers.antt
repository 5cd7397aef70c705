-- `records::line::pair` meets its contract: one text after another. Assumes nothing.
use native.Mathlib.Omega.{arith}
use Rattle.records.proofs.Laws.{put_then}
use Rattle.records.proofs.line.pair.Goals as goal

pub returns : goal.returns
returns c = record { put = put_then c.double-a.ensures.put c.double.ensures.put; value = omega arith }

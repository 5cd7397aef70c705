-- `records::line::bracket` meets its contract: one text after another. Assumes nothing.
use native.Mathlib.Omega.{arith}
use Rattle.records.proofs.Laws.{put_then}
use Rattle.records.proofs.line.bracket.Goals as goal

pub returns : goal.returns
returns c =
    record { put = put_then (put_then (put_then c.double-a.ensures.put c.double-b.ensures.put) c.double-c.ensures.put) c.byte.ensures; value = omega arith }

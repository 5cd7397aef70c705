-- `records::line::double` meets its contract: one text after another. Assumes nothing.
use native.Mathlib.Omega.{arith}
use Rattle.records.proofs.Laws.{put_then}
use Rattle.records.proofs.line.double.Goals as goal

pub returns : goal.returns
returns c =
    record { put = rw (← c.to_bits.ensures) (put_then c.byte-a.ensures c.hexadecimal.ensures.put); value = omega arith }

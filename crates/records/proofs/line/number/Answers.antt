-- `records::line::number` meets its contract: one text after another. Assumes nothing.
use Rattle.records.proofs.Laws.{put_then}
use Rattle.records.proofs.line.number.Goals as goal

pub returns : goal.returns
returns c = put_then c.byte-a.ensures c.decimal.ensures

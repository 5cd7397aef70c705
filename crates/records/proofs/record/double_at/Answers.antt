-- `records::record::double_at` meets its contract. Assumes nothing.
use Rattle.records.proofs.Laws.{number_8}
use Rattle.records.proofs.record.double_at.Goals as goal

pub returns : goal.returns
returns c = rw (c.from_bits.ensures, number_8 c.args.input.now _ c.args.at _ c.bytes.ensures c.from_le_bytes.ensures)

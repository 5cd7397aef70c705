-- `records::text::byte` meets its contract. Assumes nothing.
use Rattle.records.proofs.Laws.{put_byte}
use Rattle.records.proofs.text.byte.Goals as goal

pub returns : goal.returns
returns c = put_byte c.args.out.now c.args.at c.args.b c.requires

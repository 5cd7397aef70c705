-- `records::record::decode` meets its contract. Assumes nothing.
use Prim.Native.Nat.{◌+◌}
use Rattle.records.proofs.Laws.{number_2}
use Rattle.records.proofs.record.decode.Goals as goal

pub returns : goal.returns
returns c =
    let a = c.args in
    let m = number_2 a.input.now _ (a.at + 3) _ c.bytes.ensures c.from_le_bytes.ensures in
    let n = number_2 a.input.now _ (a.at + 5) _ c.bytes-2.ensures c.from_le_bytes-2.ensures in
    rw (m, n, c.allowance_at.ensures, c.double_at.ensures, c.double_at-2.ensures, c.double_at-3.ensures)

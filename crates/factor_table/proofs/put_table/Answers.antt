-- `factor_table::put_table` meets its contract: what is lent is the table, which has 1,600 numbers. Assumes nothing.
use Rattle.factors.proofs.Places.{table_length}
use Rattle.factor_table.proofs.put_table.Goals as goal

pub returns : goal.returns
returns c = rw (c.table.ensures, table_length) at c.put_lines.ensures

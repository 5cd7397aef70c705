-- `factors::factor_table::table` meets its contract: the checker computes all 1,600 quotients. Assumes nothing.
use mathlib.Core.Path.{refl}
use lib.Ieee.{round, to_bits}
use Rattle.factors.proofs.Quotient.{quotients_from, quotient_table, table_is}
use Rattle.factors.proofs.factor_table.table.Goals as goal

pub returns : goal.returns
unfolding quotients_from quotient_table round to_bits
returns c = rw table_is refl

-- `logarithms::ten_log` meets its contract. Assumes nothing.
use mathlib.Core.Path.{refl}
use Rattle.logarithms.specs.Inside.LogarithmValues.{ten_log}
use Rattle.logarithms.proofs.Tens.{ten_log_is}
use Rattle.logarithms.proofs.ten_log.Goals as goal

pub returns : goal.returns
unfolding ten_log
returns c = record { ten_log = ten_log_is c.args.u c.requires; value = refl }

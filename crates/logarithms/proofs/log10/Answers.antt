-- `logarithms::log10` meets its contract: the tests find which clause of `Log10` applies (`proofs/Cases.antt`). Assumes nothing.
use mathlib.Core.Path.{sym, subst}
use lib.Dec.{T}
use lib.Ieee.{of_bits, div, neg}
use Rattle.logarithms.specs.Inside.LogarithmValues.{log10}
use Rattle.logarithms.proofs.Cases.{is_number, is_inf, is_zero, is_none}
use Rattle.logarithms.proofs.log10.Goals as goal

pub log_above_zero-requires : goal.log_above_zero-requires
unfolding of_bits div
log_above_zero-requires c = record { above_zero = subst T (sym c.if-x.true) tt; finite = subst T (sym c.if-x-2.true) tt }

pub returns-then-x-2 : goal.returns-then-x-2
unfolding log10 of_bits div
returns-then-x-2 c = record { log10 = is_number c.args.x c.log_above_zero.result c.if-x.true c.if-x-2.true c.log_above_zero.ensures.near; value = rw (c.if-x.true, c.if-x-2.true) c.log_above_zero.ensures.value }

pub returns-else-x-2 : goal.returns-else-x-2
unfolding log10 of_bits div
returns-else-x-2 c = record { log10 = is_inf c.args.x c.if-x.true c.if-x-2.false; value = rw (c.if-x.true, c.if-x-2.false) }

pub returns-then-x-3 : goal.returns-then-x-3
unfolding log10 of_bits div neg
returns-then-x-3 c = record { log10 = is_zero c.args.x c.if-x-3.true; value = rw (c.if-x.false, c.if-x-3.true) }

pub returns-else-x-3 : goal.returns-else-x-3
unfolding log10 of_bits div
returns-else-x-3 c = record { log10 = is_none c.args.x c.if-x.false c.if-x-3.false; value = rw (c.if-x.false, c.if-x-3.false) }

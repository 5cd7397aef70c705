-- `expansion::sckb::PowerSums::concluded` meets its contract. Assumes nothing.
use mathlib.Core.Path.{sym, ◌∙◌}
use Rattle.expansion.proofs.Abreast.{from_stop, from_on}
use Rattle.expansion.proofs.sckb.PowerSums.concluded.Goals as goal

pub returns-then-settled : goal.returns-then-settled
returns-then-settled c = let a = c.args in from_stop _ a.self.m a.self.ip a.self.nm a.k a.first a.sw (sym c.settled.ensures ∙ c.if-settled.true)

pub returns : goal.returns
returns c = let a = c.args in c.sum_terms.ensures ∙ c.requires.2 ∙ from_on _ a.self.m a.self.ip a.self.nm a.k a.first a.sw (sym c.settled.ensures ∙ c.if-settled.false)

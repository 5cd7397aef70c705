-- `bessel::sphj::find_orders` meets its contract. Assumes nothing.
use mathlib.Core.Path.{sym, ◌∙◌}
use native.Mathlib.Omega.{arith}
use Rattle.bessel.specs.Sphj.{orders}
use Rattle.bessel.proofs.sphj.find_orders.Goals as goal

pub returns-then-tiny : goal.returns-then-tiny
unfolding orders
returns-then-tiny c = record { value = rw (sym c.tiny.ensures ∙ c.if-tiny.true); nm_le_n = (omega arith, omega arith) }

pub returns : goal.returns
unfolding orders
returns c = record { value = rw (sym c.tiny.ensures ∙ c.if-tiny.false) c.searched_orders.ensures.value; nm_le_n = c.searched_orders.ensures.nm_le_n }

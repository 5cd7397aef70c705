-- `expansion::terms::terms` meets its contract: H is below 175, and so is its whole part. Assumes nothing.
use mathlib.Core.Path.{refl}
use native.Mathlib.Omega.{arith}
use Rattle.expansion.specs.Terms.{h_of, terms_of}
use Rattle.expansion.proofs.Laws.{whole_few}
use Rattle.expansion.proofs.terms.terms.Goals as goal

pub overflow_add-result : goal.overflow_add-result
overflow_add-result c = let a = c.args in let few = whole_few (h_of a.offset a.c) c.requires in rw (c.whole_part.ensures, c.h.ensures) (omega (arith, few))

pub returns : goal.returns
unfolding terms_of
returns c = let a = c.args in let few = whole_few (h_of a.offset a.c) c.requires in rw (c.whole_part.ensures, c.h.ensures) (record { value = refl; lower_bound = (omega arith, omega (arith, few)) })

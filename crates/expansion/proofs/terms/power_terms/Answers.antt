-- `expansion::terms::power_terms` meets its contract. Assumes nothing.
use Rattle.expansion.proofs.Laws.{clamped_below}
use Rattle.expansion.proofs.terms.power_terms.Goals as goal

pub terms-requires : goal.terms-requires
terms-requires c = rw c.clamped.ensures (clamped_below c.args.offset c.args.c c.requires.0 c.requires.1)

pub returns : goal.returns
returns c = rw (← c.clamped.ensures) c.terms.ensures

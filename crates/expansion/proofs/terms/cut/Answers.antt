-- `expansion::terms::cut` meets its contract (`proofs/Halves.antt`). Assumes nothing.
use Rattle.expansion.proofs.Laws.{whole_few}
use Rattle.expansion.proofs.Halves.{half_below}
use Rattle.expansion.proofs.terms.cut.Goals as goal

pub returns : goal.returns
returns c =
    let p = c.requires in
    record { value = c.whole_part.ensures; upper_bound = rw c.whole_part.ensures (whole_few _ (half_below c.args.offset c.args.c p.0 p.1 p.2)) }

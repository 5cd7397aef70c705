-- `spheroidal_c::spheroidal_oblate_first_kind` meets its contract. Assumes nothing.
use Rattle.spheroidal_c.proofs.spheroidal_oblate_first_kind.Goals as goal

pub returns : goal.returns
returns c = rw (c.code.ensures, ← c.first_kind.ensures) c.put_pair.ensures

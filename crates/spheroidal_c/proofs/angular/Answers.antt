-- `spheroidal_c::angular` meets its contract. Assumes nothing.
use Rattle.spheroidal_c.proofs.angular.Goals as goal

pub returns : goal.returns
returns c = rw (c.code.ensures, ← c.angular.ensures) c.put_pair.ensures

-- `segv::families::family_of` meets its contract. Assumes nothing.
use Rattle.segv.specs.Families.{handed_on}
use Rattle.segv.proofs.Laws as laws
use Rattle.segv.proofs.families.family_of.Goals as goal

pub returns : goal.returns
returns c =
    let f = c.family_matrix-matrix.ensures in
    laws.family_is handed_on _ _ _ _ _ _ _ _ _ _ _ c.bisect_family.ensures c.gershgorin.ensures f.on_diagonal f.beside f.size

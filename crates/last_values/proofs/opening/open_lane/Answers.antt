-- `last_values::opening::open_lane` meets its contract. Assumes nothing.
use native.Mathlib.Omega.{arith}
use Rattle.last_values.proofs.Rows.{opened_is}
use Rattle.last_values.proofs.opening.open_lane.Goals as goal

pub returns : goal.returns
returns c =
    let f = c.family_matrix-matrix.ensures in
    let l = c.load.ensures in
    let m = l.most in
    record {
      most = omega (arith, m);
      by_index = l.by_index;
      opened = opened_is _ _ _ _ _ _ _ _ _ _ _ _ _ _ c.requires.4 f.on_diagonal f.beside f.size c.gershgorin.ensures c.within-lane.ensures c.start.ensures (omega (arith, m)) l.holds;
    }

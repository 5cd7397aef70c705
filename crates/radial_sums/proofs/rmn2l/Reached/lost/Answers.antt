-- `radial_sums::rmn2l::Reached::lost` meets its contract. Assumes nothing.
use mir.Syntax.{w32}
use mir.Facts.{to_z-of_z}
use Rattle.radial_sums.proofs.Laws.{int_fits}
use Rattle.radial_sums.specs.Rmn2l.{lost}
use Rattle.radial_sums.proofs.rmn2l.Reached.lost.Goals as goal

pub returns : goal.returns
unfolding lost
returns c =
    let l = c.log10.result in
    rw (c.int_x86.ensures, to_z-of_z {w = w32} (int_fits l), c.log10.ensures.value, c.abs.ensures)

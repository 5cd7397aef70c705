-- `radial_sums::rmn2l::int_x86` meets its contract. Assumes nothing.
use mathlib.Core.Path.{◌∙◌, sym}
use lib.Ieee.Casts.{to_signed_in}
use mir.Facts.{to_z-of_z}
use mir.Syntax.{w32}
use Rattle.radial_sums.specs.Rmn2l.{int_x86}
use Rattle.radial_sums.proofs.rmn2l.int_x86.Goals as goal
use Rattle.radial_sums.proofs.rmn2l.int_x86.Goals.{else-x-via-then-x+else-x-2, else-x-via-else-x}

pub returns-then-x-2 : goal.returns-then-x-2
unfolding int_x86
returns-then-x-2 c = rw (c.if-x.true, c.if-x-2.true) (to_z-of_z {w = w32} (record { sfits = rw c.truncate.ensures (to_signed_in 31 c.args.x) }) ∙ c.truncate.ensures)

pub returns : goal.returns
unfolding int_x86
returns c = elim c.else-x.branch [ else-x-via-then-x+else-x-2 w ↦ sym (rw (w.if-x.true, w.if-x-2.false)) | else-x-via-else-x w ↦ sym (rw w.if-x.false) ]

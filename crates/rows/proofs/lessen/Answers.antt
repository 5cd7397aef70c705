-- `rows::lessen` meets its contract. The invariant: the first j places are written. Assumes nothing.
use mathlib.Core.Path.{◌≡◌, refl}
use native.Mathlib.Omega.{arith}
use native.Mathlib.Numerals.{add-one}
use lib.ListN.{length-set}
use Rattle.rows.specs.Rows.{lessened}
use Rattle.rows.proofs.lessen.Goals as goal

pub loop-j-init : goal.loop-j-init
unfolding lessened
loop-j-init c = (refl, refl)

pub loop-j-preserved : goal.loop-j-preserved
unfolding lessened
loop-j-preserved c =
    let l = c.loop-j in (simp length-set l.invariant.0, rw (add-one l.j, l.invariant.1))

pub returns : goal.returns
returns c =
    let l = c.loop-j in
    let h : l.j ≡ c.args.n = omega arith in
    rw h at l.invariant.1

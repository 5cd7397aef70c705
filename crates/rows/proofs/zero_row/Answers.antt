-- `rows::zero_row` meets its contract. The invariant: the first j places of each slice are written. Assumes nothing.
use mathlib.Core.Path.{◌≡◌, refl, ap}
use native.Mathlib.Omega.{arith}
use native.Mathlib.Numerals.{add-one}
use lib.ListN.{length-set}
use Rattle.segv.specs.Row.{written, written_row}
use Rattle.rows.specs.Rows.{zero_at}
use Rattle.rows.proofs.zero_row.Goals as goal

pub loop-j-init : goal.loop-j-init
unfolding written written_row
loop-j-init c = (refl, refl, refl, refl, refl, refl)

pub loop-j-preserved : goal.loop-j-preserved
unfolding written written_row zero_at
loop-j-preserved c =
    let l = c.loop-j in (
      simp length-set l.invariant.0,
      simp length-set l.invariant.1,
      simp length-set l.invariant.2,
      simp length-set l.invariant.3,
      simp length-set l.invariant.4,
      rw (add-one l.j, ap (λ x. x.values) l.invariant.5, ap (λ x. x.steps) l.invariant.5, ap (λ x. x.lowers) l.invariant.5, ap (λ x. x.uppers) l.invariant.5, ap (λ x. x.substituted) l.invariant.5),
    )

pub returns : goal.returns
returns c =
    let l = c.loop-j in
    let h : l.j ≡ c.args.n = omega arith in
    rw h at l.invariant.5

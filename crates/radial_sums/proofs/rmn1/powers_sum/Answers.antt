-- `radial_sums::rmn1::powers_sum` meets its contract. The invariant: what is left to add gives what the whole gives. Assumes nothing.
use Prim.Native.Nat.{suc, ◌-◌}
use mathlib.Core.Path.{◌≡◌, sym, ◌∙◌}
use native.Mathlib.Omega.{arith}
use native.Mathlib.Numerals.{add-one}
use Rattle.radial_sums.specs.Rmn1.{powers_on}
use Rattle.radial_sums.proofs.Laws.{powers_stop, powers_on_lem}
use Rattle.radial_sums.proofs.rmn1.powers_sum.Goals as goal

pub returns-then-settled : goal.returns-then-settled
returns-then-settled c =
    let a = c.args in
    let l = c.loop-j in
    let h : a.nm - l.j ≡ suc (a.nm - suc l.j) = omega arith in
    powers_stop _ (a.nm - suc l.j) l.j l.sum l.sw (sym c.if-settled.ensures) ∙ rw h at l.invariant

pub loop-j-preserved : goal.loop-j-preserved
loop-j-preserved c =
    let a = c.args in
    let l = c.loop-j in
    let h : a.nm - l.j ≡ suc (a.nm - suc l.j) = omega arith in
    rw (add-one l.j) (powers_on_lem _ (a.nm - suc l.j) l.j l.sum l.sw (sym c.if-settled.ensures) ∙ rw h at l.invariant)

pub returns : goal.returns
unfolding powers_on
returns c = let h : c.args.nm - c.loop-j.j ≡ 0 = omega arith in rw h at c.loop-j.invariant

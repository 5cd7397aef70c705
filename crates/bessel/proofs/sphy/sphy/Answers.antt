-- `bessel::sphy::sphy` meets its contract. Assumes nothing.
use mathlib.Core.Path.{refl, sym, ◌∙◌}
use native.Mathlib.Omega.{arith}
use native.Mathlib.Numerals.{add-one}
use Rattle.bessel.specs.Sphy.{order_of}
use Rattle.bessel.proofs.Upward.{front_filled, infinite, all_reached, cut_short}
use Rattle.bessel.proofs.sphy.sphy.Goals as goal

pub returns-then-near_zero : goal.returns-then-near_zero
returns-then-near_zero c =
    let p = c.requires.sy_value in
    let n = c.requires.le_n in
    let s = front_filled _ _ _ _ (rw c.told-sy (omega (arith, n))) (c.fill.ensures.after (λ y h. h)) in
    let d = front_filled _ _ _ _ (rw c.told-dy (omega (arith, n))) (c.fill-then-near_zero.ensures.after (λ y h. h)) in
    let the_all = infinite _ _ _ _ p.0 p.1 (sym c.near_zero.ensures ∙ c.if-near_zero.true) _ _ _ (add-one _) s d in
    record { value = the_all.0; sy_after = the_all.1.0; dy_after = the_all.1.1 }

pub returns-in-Ok : goal.returns-in-Ok
unfolding order_of
returns-in-Ok c =
    let p = c.requires.sy_value in
    let the_all = all_reached _ _ _ _ p.0 p.1 (sym c.near_zero.ensures ∙ c.if-near_zero.false) _ _ c.lowest_orders-b.ensures c.in-Ok.ensures refl _ c.derive.ensures in
    record { value = the_all.0; sy_after = the_all.1.0; dy_after = the_all.1.1 }

pub returns-in-Err : goal.returns-in-Err
unfolding order_of
returns-in-Err c =
    let p = c.requires.sy_value in
    let the_all = cut_short _ _ _ _ p.0 p.1 (sym c.near_zero.ensures ∙ c.if-near_zero.false) _ _ c.lowest_orders-b.ensures c.in-Err.ensures refl in
    record { value = the_all.0; sy_after = the_all.1.0; dy_after = the_all.1.1 }

-- `bessel::sphj::sphj` meets its contract. Assumes nothing.
use mathlib.Core.Path.{sym, ◌∙◌}
use native.Mathlib.Numerals.{add-one}
use Rattle.bessel.proofs.Laws.{near_zero, far_off}
use Rattle.bessel.proofs.sphj.sphj.Goals as goal

pub returns-then-tiny : goal.returns-then-tiny
returns-then-tiny c =
    let b = c.requires.sj_value in
    let the_all = near_zero _ _ _ _ b.0 b.1 (sym c.tiny.ensures ∙ c.if-tiny.true) in
    record { sj_after = the_all.0; dj_after = the_all.1 }

pub returns : goal.returns
returns c =
    let p = c.requires in
    let the_all = far_off _ _ _ _ p.sj_value.0 p.sj_value.1 (sym c.tiny.ensures ∙ c.if-tiny.false) _ _ _ _ _ _ _ p.le_n.2 c.lowest_orders-b.ensures c.recur-last.ensures c.factor.ensures (add-one _) c.scale.ensures c.derive.ensures in
    record { sj_after = the_all.0; dj_after = the_all.1 }

-- `expansion::four::one_settled` meets its contract. Assumes nothing.
use mathlib.Core.Path.{sym, ◌∙◌}
use Rattle.arith.proofs.Flags.{neither}
use Rattle.expansion.proofs.four.one_settled.Goals as goal

pub returns : goal.returns
returns c = λ h.
    let r = neither _ _ h in
    let q = neither _ _ r.0 in
    let p = neither _ _ q.0 in
    (sym c.settled-a.ensures ∙ p.0, sym c.settled-b.ensures ∙ p.1, sym c.settled-c.ensures ∙ q.1, sym c.settled-d.ensures ∙ r.1)

-- `expansion::sdmn::Recurrence::descend` meets its contract. Assumes nothing.
use Prim.Native.Nat.{◌-◌, ◌+◌}
use mathlib.Core.Path.{◌≡◌, refl, sym, ◌∙◌}
use native.Mathlib.Omega.{arith}
use Rattle.expansion.specs.Sdmn as Sdmn
use Rattle.expansion.specs.Inside.Recurrences.{defined}
use Rattle.expansion.proofs.Laws.{descend_stop, descend_on}
use Rattle.expansion.proofs.sdmn.Recurrence.descend.Goals as goal

pub loop-k-init : goal.loop-k-init
loop-k-init c = refl

pub returns-then-not-exceeds : goal.returns-then-not-exceeds
returns-then-not-exceeds c =
    let l = c.loop-k in
    let h : l.k - 1 + 1 ≡ l.k = omega arith in record {
      df_after = rw h (descend_stop (defined c.args.self) c.args.nm l.f1 l.f0 c.below-f.result l.df l.k (omega arith) (rw h at c.below-f.ensures) (rw h at (sym c.exceeds.ensures ∙ c.if-not-exceeds.true)) ∙ l.invariant);
      kb_le_nm = omega arith;
    }

pub loop-k-preserved : goal.loop-k-preserved
loop-k-preserved c =
    let l = c.loop-k in
    let h : l.k - 1 + 1 ≡ l.k = omega arith in
    descend_on (defined c.args.self) c.args.nm l.f1 l.f0 c.below-f.result l.df l.k _ _ _ (omega arith) (rw h at c.below-f.ensures)
    (rw h at (sym c.exceeds.ensures ∙ c.if-not-exceeds.false)) c.reduced-f1.ensures c.reduced-f0.ensures c.reduce.ensures
    ∙ l.invariant

pub returns : goal.returns
unfolding Sdmn.descend
returns c = let h : c.loop-k.k ≡ 0 = omega arith in record { df_after = rw h at c.loop-k.invariant; kb_le_nm = omega arith }

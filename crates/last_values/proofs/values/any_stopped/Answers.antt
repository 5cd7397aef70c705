-- `last_values::values::any_stopped` meets its contract. The invariant: the first j lanes. Assumes nothing.
use Prim.Native.Nat.{ℕ}
use mathlib.Core.Path.{◌≡◌, refl, sym, ◌∙◌}
use mathlib.Core.Bool.{false}
use native.Mathlib.Omega.{arith}
use Rattle.arith.proofs.Flags.{neither}
use Rattle.lanes.proofs.Laws.{one_more}
use Rattle.last_values.specs.Lane.{stopped_in}
use Rattle.last_values.specs.Lanes.{lane_of}
use Rattle.last_values.proofs.values.any_stopped.Goals as goal

pub loop-j-init : goal.loop-j-init
loop-j-init c = (λ h i l. absurd (omega arith), λ all. refl)

pub loop-j-preserved : goal.loop-j-preserved
loop-j-preserved c =
    let l = c.loop-j in
    let lanes = c.args.lanes.now in
    let s = c.stopped-stopped.ensures in (
      λ h. let n = neither c.stopped-stopped.result l.stopped h in one_more (λ (i : ℕ). stopped_in (lane_of lanes i).outcome ≡ false) l.j (l.invariant.0 n.1) (sym s ∙ n.0),
      λ all. rw (s, all l.j (omega arith), l.invariant.1 all),
    )

pub returns : goal.returns
returns c = let l = c.loop-j in record { none_where_false = λ h j less. l.invariant.0 h j (omega arith); false_where_none = l.invariant.1 }

-- `sturm::entries::Matrix::negative_pivots` meets its contract. The invariant: each of the seven chains is the definition's after i entries. Assumes nothing.
use mathlib.Core.Path.{◌≡◌, sym, ◌∙◌}
use mathlib.Core.Bool.{false}
use native.Mathlib.Omega.{arith}
use Rattle.arith.proofs.Flags.{not_left}
use Rattle.sturm.specs.Pivots.{divisor}
use Rattle.sturm.specs.Inside.SevenShifts.{each, Each}
use Rattle.sturm.proofs.Chain.{chains_start, chains_few, NotZero, no_zero, chains_on, chains_end, none_at_each}
use Rattle.sturm.proofs.entries.Matrix.negative_pivots.Goals as goal
use Rattle.sturm.proofs.entries.Matrix.negative_pivots.Goals.{then-any_zero, else-any_zero}

pub loop-i-init : goal.loop-i-init
loop-i-init c = chains_start _ _ _ _ _ c.all-s.ensures c.all-negative.ensures

pub counted-negative-requires : goal.counted-negative-requires
counted-negative-requires c = let l = c.loop-i in chains_few _ _ _ _ _ _ _ l.invariant (omega arith)

pub loop-i-preserved : goal.loop-i-preserved
loop-i-preserved c =
    let l = c.loop-i in
    let z = c.any_zero.ensures in
    -- after the branch the pivots are divisors, and none was zero where none is said to have been met
    let e : (c.if-any_zero.s ≡ each divisor l.s) × (c.if-any_zero.zero_met ≡ false → (l.zero_met ≡ false) × Each NotZero l.s) =
    elim c.if-any_zero.branch [
      | then-any_zero w ↦ (w.s-is ∙ w.divisors-s.ensures, λ h. not_left (sym w.zero_met-is ∙ h))
      | else-any_zero w ↦ (w.s-is ∙ no_zero l.s (z w.if-any_zero.false), λ h. (sym w.zero_met-is ∙ h, z w.if-any_zero.false))
    ] in
    chains_on _ _ _ _ _ _ _ l.invariant _ _ _ _ e.0 e.1 (rw (← c.square.ensures) c.next-s.ensures) c.counted-negative.ensures

pub returns-then-zero_met : goal.returns-then-zero_met
returns-then-zero_met c =
    let l = c.loop-i in
    let h : l.i ≡ c.args.self.now.entries = omega arith in
    chains_end _ _ _ _ _ _ _ l.invariant _ h _ c.substitutes_at.ensures

pub returns : goal.returns
returns c =
    let l = c.loop-i in
    let h : l.i ≡ c.args.self.now.entries = omega arith in
    chains_end _ _ _ _ _ _ _ l.invariant _ h _ (none_at_each _ _ _ _ _ _ _ l.invariant _ h c.if-zero_met.false _ c.all.ensures)

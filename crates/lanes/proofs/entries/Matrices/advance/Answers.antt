-- `lanes::entries::Matrices::advance` meets its contract. The invariant: the lanes before the j-th have their pivots and counts, and the others what they had. Assumes nothing.
use mathlib.Core.Path.{◌≡◌}
use native.Mathlib.Omega.{arith}
use Rattle.lanes.proofs.Laws.{none_stored, one_stored, next_kept}
use Rattle.lanes.proofs.entries.Matrices.advance.Goals as goal
use Rattle.lanes.proofs.entries.Matrices.advance.Invariants.{pivot_of}

pub loop-j-init : goal.loop-j-init
loop-j-init c = (none_stored _ _ _ _, none_stored _ _ _ _)

pub counted-requires : goal.counted-requires
counted-requires c =
    let l = c.loop-j in
    rw (next_kept l.j l.invariant.1) (c.requires.by_index l.j (omega arith))

pub loop-j-preserved : goal.loop-j-preserved
loop-j-preserved c =
    let l = c.loop-j in
    let a = c.args in
    let p : c.pivot-p.result ≡ pivot_of a.self.now.d a.self.now.e a.i a.shifts.now a.s.now l.j =
    rw (← (next_kept l.j l.invariant.0), ← c.square.ensures) c.pivot-p.ensures in (
      one_stored _ _ _ _ _ l.j _ l.invariant.0 (omega arith) (λ k less e. omega arith) p,
      one_stored _ _ _ _ _ l.j _ l.invariant.1 (omega arith) (λ k less e. omega arith) (rw (← p, ← (next_kept l.j l.invariant.1)) c.counted.ensures),
    )

pub returns : goal.returns
returns c =
    let l = c.loop-j in
    record { s_len = (let z = l.invariant.0.size in omega arith, let z = l.invariant.1.size in omega arith); by_index_2 = λ j less. l.invariant.0.done j (omega arith); by_index_3 = λ j less. rw (l.invariant.0.done j (omega arith)) (l.invariant.1.done j (omega arith)) }

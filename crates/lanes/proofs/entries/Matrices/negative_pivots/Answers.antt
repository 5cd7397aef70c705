-- `lanes::entries::Matrices::negative_pivots` meets its contract. The invariant: the pivot and the count of each lane are its own after i entries. Assumes nothing.
use Prim.Native.Nat.{ℕ, min}
use mathlib.Core.Path.{◌≡◌, refl}
use native.Mathlib.Omega.{arith}
use lib.Ieee.{nan}
use lib.ListN.{get_or-replicate}
use Rattle.arith.specs.Double.{#1}
use Rattle.sturm.specs.Pivots.{negative_pivots}
use Rattle.lanes.proofs.Laws.{lane_starts, lane_on}
use Rattle.lanes.proofs.entries.Matrices.negative_pivots.Goals as goal

pub loop-i-init : goal.loop-i-init
loop-i-init c = (refl, refl, λ j less. rw (get_or-replicate 8 j #1 nan less, get_or-replicate {A = ℕ} 8 j 0 0 less) (lane_starts _ _ _ _))

pub advance-requires : goal.advance-requires
advance-requires c =
    let l = c.loop-i in
    record { i_bound = omega arith; by_index = λ j less. let f = (l.invariant.2 j less).few in omega arith }

pub loop-i-preserved : goal.loop-i-preserved
loop-i-preserved c =
    let l = c.loop-i in
    let divisors = c.substitute_zeros.ensures.by_index in
    let next = c.advance.ensures in
    (next.s_len.0, next.s_len.1, λ j less. lane_on _ _ _ _ l.i _ _ _ _ (rw (← (divisors j less)) (next.by_index_2 j less)) (next.by_index_3 j less) (omega arith) (l.invariant.2 j less))

pub returns : goal.returns
unfolding negative_pivots
returns c = λ j k d e less within h.
    let l = c.loop-i in
    let whole : min l.i k ≡ k = omega arith in
    rw whole at ((l.invariant.2 j less).number_is k d e h)

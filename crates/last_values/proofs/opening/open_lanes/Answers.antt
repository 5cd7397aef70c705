-- `last_values::opening::open_lanes` meets its contract. The invariant: the first j lanes are open. Assumes nothing.
use Prim.Native.Nat.{◌/◌}
use native.Mathlib.Omega.{arith}
use Rattle.last_values.proofs.Rows.{openings_on}
use Rattle.last_values.proofs.opening.open_lanes.Goals as goal

pub loop-j-init : goal.loop-j-init
loop-j-init c = record { eight = c.told-lanes; done = λ i l. absurd (omega arith) }

pub open_lane-requires : goal.open_lane-requires
open_lane-requires c =
    let pre = c.requires in
    let l = c.loop-j in
    let some = pre.by_index (l.j / 2) (omega arith) in
    (pre.m_bound.0, omega arith, some.0, some.1, pre.m_bound.1, omega arith)

pub loop-j-preserved : goal.loop-j-preserved
loop-j-preserved c =
    let l = c.loop-j in
    let e = c.open_lane.ensures in
    openings_on _ _ _ _ _ _ _ l.j l.invariant (omega arith) _ e.most e.by_index _ e.opened

pub returns : goal.returns
returns c =
    let o = c.loop-j.invariant in
    record { eight = o.eight; by_index_2 = λ j l. o.done j (omega arith) }

-- `last_values::running::run` meets its contract. The invariant: each lane comes to what it came to, and the first j are through. Assumes nothing.
use Prim.Native.Nat.{ℕ, ◌<◌}
use mathlib.Core.Path.{◌≡◌}
use mathlib.Core.Bool.{true}
use native.Mathlib.Omega.{arith}
use Rattle.std.specs.Prelude.{is_some}
use Rattle.lanes.proofs.Laws.{one_more}
use Rattle.last_values.specs.Lanes.{lane_of}
use Rattle.last_values.proofs.Each.{went_none, went_on}
use Rattle.last_values.proofs.running.run.Goals as goal

pub loop-j-init : goal.loop-j-init
loop-j-init c = (went_none _ _ _ _ (omega arith) c.requires, λ i l. absurd (omega arith))

pub run_lane-requires : goal.run_lane-requires
run_lane-requires c = (omega arith, c.loop-j.invariant.0.inside)

pub loop-j-preserved : goal.loop-j-preserved
loop-j-preserved c =
    let l = c.loop-j in
    let r = c.run_lane in (
      went_on _ _ _ _ _ _ l.invariant.0 r.ensures.went,
      one_more (λ (i : ℕ). is_some (lane_of r.new.lanes i).outcome ≡ true) l.j (λ (i : ℕ) (less : i < l.j). r.ensures.went.kept i (omega arith) (l.invariant.1 i less)) r.ensures.through,
    )

pub returns : goal.returns
returns c = let l = c.loop-j in record { went = l.invariant.0; by_index = λ j less. l.invariant.1 j (omega arith) }

-- `arctangents::halved` meets its contract. Assumes nothing.
use Prim.Native.Nat.{ℕ, ◌+◌, ◌-◌, ◌/◌, ◌^◌, ◌≤◌, ◌<◌}
use native.Mathlib.Omega.{arith}
use Rattle.arctangents.specs.Inside.ArctangentValues as ArctangentValues
use Rattle.arctangents.proofs.Sides.{stated, above_is, below_is}
use Rattle.arctangents.proofs.Upto.{good_of}
use Rattle.arctangents.proofs.Distinct.{distinct}
use Rattle.arctangents.proofs.halved.Goals as goal
use Rattle.arctangents.proofs.halved.Goals.{Start}

record Middle (low up mid : ℕ) : Type 0 where
  over : low < mid
  under : mid + 2 ^ 16 < up
  most : mid ≤ 2 ^ 59
  most_too : mid + 2 ^ 16 ≤ 2 ^ 59

middle : (low up : ℕ) → low + 0x3ffc0 < up → up ≤ 2 ^ 59 → Middle low up (low + (up - low) / 2)
middle low up h k = record { over = omega arith; under = omega arith; most = omega arith; most_too = omega arith }

closer_up : (low up mid : ℕ) → Middle low up mid → mid - low < up - low
closer_up low up mid m = omega (arith, m.over, m.under)

closer_low : (low up mid : ℕ) → Middle low up mid → up - mid < up - low
closer_low low up mid m = omega (arith, m.over, m.under)

closer_far : (low up mid : ℕ) → Middle low up mid → mid + 2 ^ 16 - low < up - low
closer_far low up mid m = omega (arith, m.over, m.under)

over_far : (low up mid : ℕ) → Middle low up mid → low < mid + 2 ^ 16
over_far low up mid m = omega (arith, m.over, m.under)

under_up : (low up mid : ℕ) → Middle low up mid → mid < up
under_up low up mid m = omega (arith, m.over, m.under)

pub returns-then-above : goal.returns-then-above
unfolding ArctangentValues.halved
returns-then-above c =
    let a = c.args in
    let mid = a.b.low + (a.b.up - a.b.low) / 2 in
    let i = middle a.b.low a.b.up c.requires.0 c.requires.1 in
    let p = c.circle-p in record {
      halved = record {
        order = i.over;
        upto = i.most;
        closer = closer_up a.b.low a.b.up mid i;
        bounds = record {
          from_below = c.requires.2.from_below;
          from_above = above_is mid p.result.cn p.result.c p.result.sn p.result.s a.x.m a.x.e (stated mid p.result.cn p.result.c p.result.sn p.result.s i.most p.ensures.circle) (c.above.ensures.above c.if-above.true);
        };
      };
      value = rw (← c.circle-p.ensures.value, ← c.above.ensures.value, c.if-above.true);
    }

pub returns-then-below : goal.returns-then-below
unfolding ArctangentValues.halved
returns-then-below c =
    let a = c.args in
    let mid = a.b.low + (a.b.up - a.b.low) / 2 in
    let i = middle a.b.low a.b.up c.requires.0 c.requires.1 in
    let p = c.circle-p in record {
      halved = record {
        order = under_up a.b.low a.b.up mid i;
        upto = c.requires.1;
        closer = closer_low a.b.low a.b.up mid i;
        bounds = record {
          from_below = λ x y v h. below_is mid p.result.cn p.result.c p.result.sn p.result.s a.x.m a.x.e (stated mid p.result.cn p.result.c p.result.sn p.result.s i.most p.ensures.circle) (c.below.ensures.below c.if-below.true) x y v;
          from_above = c.requires.2.from_above;
        };
      };
      value = rw (← c.circle-p.ensures.value, ← c.above.ensures.value, c.if-above.false, ← c.below.ensures.value, c.if-below.true);
    }

pub returns-then-above-2 : goal.returns-then-above-2
unfolding ArctangentValues.halved
returns-then-above-2 c =
    let a = c.args in
    let mid = a.b.low + (a.b.up - a.b.low) / 2 in
    let i = middle a.b.low a.b.up c.requires.0 c.requires.1 in
    let q = c.circle-q in record {
      halved = record {
        order = over_far a.b.low a.b.up mid i;
        upto = i.most_too;
        closer = closer_far a.b.low a.b.up mid i;
        bounds = record {
          from_below = c.requires.2.from_below;
          from_above = above_is (mid + 2 ^ 16) q.result.cn q.result.c q.result.sn q.result.s a.x.m a.x.e (stated (mid + 2 ^ 16) q.result.cn q.result.c q.result.sn q.result.s i.most_too q.ensures.circle) (c.above-2.ensures.above c.if-above-2.true);
        };
      };
      value = rw (← c.circle-p.ensures.value, ← c.above.ensures.value, c.if-above.false, ← c.below.ensures.value, c.if-below.false, ← c.circle-q.ensures.value, ← c.above-2.ensures.value, c.if-above-2.true);
    }

-- never: both tests unsure at the middle, and the third beside it
pub returns : goal.returns
returns c =
    let a = c.args in
    let mid = a.b.low + (a.b.up - a.b.low) / 2 in
    let i = middle a.b.low a.b.up c.requires.0 c.requires.1 in
    let p = c.circle-p in
    let q = c.circle-q in
    let r = p.result in
    let w = q.result in
    let g = good_of mid r.cn r.c r.sn r.s i.most p.ensures.circle p.ensures.bounds.0 p.ensures.bounds.1 in
    let g' = good_of (mid + 2 ^ 16) w.cn w.c w.sn w.s i.most_too q.ensures.circle q.ensures.bounds.0 q.ensures.bounds.1 in
    absurd
    (distinct mid r.cn r.c r.sn r.s w.cn w.c w.sn w.s a.x.m a.x.e i.most_too p.ensures.circle q.ensures.circle g
    (c.above-2.ensures.nearly_below c.if-above-2.false g')
    (c.below.ensures.nearly_above c.if-below.false g)
    (c.above.ensures.nearly_below c.if-above.false g))

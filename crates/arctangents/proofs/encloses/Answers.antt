-- `arctangents::encloses` meets its contract. Assumes nothing.
use mathlib.Core.Path.{◌≡◌, sym, subst}
use mathlib.Core.Bool.{true≢false}
use Prim.Native.Nat.{ℕ, ◌+◌, ◌^◌, ◌≤◌, ◌<◌}
use native.Mathlib.Omega.{arith}
use borrow.Author.Tests.{le-leb, lt-leb, eq-eqb, ne_eqb}
use Rattle.circle.specs.Inside.Circle.{IsCircle}
use Rattle.arctangents.specs.Inside.ArctangentValues as ArctangentValues
use Rattle.arctangents.proofs.Sides.{Stated, stated, above_is, below_is}
use Rattle.arctangents.proofs.Rotated.{further_is}
use Rattle.arctangents.proofs.encloses.Goals as goal
use Rattle.arctangents.proofs.encloses.Goals.{After-further}

lower : (y : ℕ) → y + 2 ^ 18 ≤ 2 ^ 59 → y ≤ 2 ^ 59
lower y h = omega arith

none : (k : ℕ) → k ≤ 0 → k ≡ 0
none k h = omega arith

-- neither sign is set
unsigned : (y cn c sn s : ℕ) → cn ≤ 0 → sn ≤ 0 → IsCircle y 5 cn c sn s → IsCircle y 5 0 c 0 s
unsigned y cn c sn s h k i = subst (λ (j : ℕ). IsCircle y 5 j c 0 s) (none cn h) (subst (λ (j : ℕ). IsCircle y 5 cn c j s) (none sn k) i)

-- what `further` gives is the cosine and the sine at the upper bound
moved : (c : After-further) → Stated (c.args.low + 2 ^ 18) c.further.result.cn c.further.result.c c.further.result.sn c.further.result.s
moved c =
    let s = c.before in
    let p = c.circle-p in
    let r = c.further.result in
    further_is s.args.low p.result.c p.result.s r.cn r.c r.sn r.s s.requires p.ensures.bounds.0 p.ensures.bounds.1
    (unsigned s.args.low p.result.cn p.result.c p.result.sn p.result.s c.if-p-gt0.false c.if-p-gt0-2.false p.ensures.circle) c.further.ensures.further

nothing : (y : ℕ) → y ≡ 0 → 0 < y → ⊥
nothing y e h = omega arith

pub returns-then-p-gt0 : goal.returns-then-p-gt0
unfolding ArctangentValues.encloses
returns-then-p-gt0 c = record { between = λ t. absurd (true≢false (sym t)); value = rw (← c.circle-p.ensures.value, lt-leb _ _ c.if-p-gt0.true) }

pub returns-then-p-gt0-2 : goal.returns-then-p-gt0-2
unfolding ArctangentValues.encloses
returns-then-p-gt0-2 c = record { between = λ t. absurd (true≢false (sym t)); value = rw (← c.circle-p.ensures.value, le-leb _ _ c.if-p-gt0.false, lt-leb _ _ c.if-p-gt0-2.true) }

pub returns-then-not-above : goal.returns-then-not-above
unfolding ArctangentValues.encloses
returns-then-not-above c = record { between = λ t. absurd (true≢false (sym t)); value = rw (← c.circle-p.ensures.value, le-leb _ _ c.if-p-gt0.false, le-leb _ _ c.if-p-gt0-2.false, ← c.further.ensures.value, ← c.above.ensures.value, c.if-not-above.true) }

pub returns-then-low-eq0 : goal.returns-then-low-eq0
unfolding ArctangentValues.encloses
returns-then-low-eq0 c =
    let s = c.before in
    let r = c.further.result in record {
      between = λ t. record {
        from_below = λ a b v h n l. absurd (nothing s.args.low c.if-low-eq0.true h);
        from_above = above_is (s.args.low + 2 ^ 18) r.cn r.c r.sn r.s s.args.x.m s.args.x.e (moved c.before.before.before) (c.above.ensures.above c.if-not-above.false);
      };
      value = rw (← c.circle-p.ensures.value, le-leb _ _ c.if-p-gt0.false, le-leb _ _ c.if-p-gt0-2.false, ← c.further.ensures.value, ← c.above.ensures.value, c.if-not-above.false, eq-eqb _ _ c.if-low-eq0.true);
    }

pub returns : goal.returns
unfolding ArctangentValues.encloses
returns c =
    let s = c.before in
    let p = c.circle-p in
    let r = c.further.result in record {
      between = λ t. record {
        from_below = λ a b v h. below_is s.args.low p.result.cn p.result.c p.result.sn p.result.s s.args.x.m s.args.x.e (stated s.args.low p.result.cn p.result.c p.result.sn p.result.s (lower s.args.low s.requires) p.ensures.circle) (c.below.ensures.below t) a b v;
        from_above = above_is (s.args.low + 2 ^ 18) r.cn r.c r.sn r.s s.args.x.m s.args.x.e (moved c.before.before.before.before) (c.above.ensures.above c.if-not-above.false);
      };
      value = rw (← c.circle-p.ensures.value, le-leb _ _ c.if-p-gt0.false, le-leb _ _ c.if-p-gt0-2.false, ← c.further.ensures.value, ← c.above.ensures.value, c.if-not-above.false, ne_eqb _ _ c.if-low-eq0.false, c.below.ensures.value);
    }

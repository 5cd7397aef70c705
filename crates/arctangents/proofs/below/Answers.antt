-- `arctangents::below` meets its contract (`proofs/Sides.antt`, `proofs/Nearly.antt`). Assumes nothing.
use mathlib.Core.Path.{sym}
use mathlib.Core.Bool.{true≢false}
use Prim.Native.Nat.{ℕ, ◌+◌, ◌-◌, ◌*◌, ◌^◌, ◌≤◌, ◌<◌}
use native.Mathlib.Nat.{zero-lt-suc}
use native.Mathlib.Omega.{arith}
use borrow.Author.Tests.{lt-ltb, le-ltb, le-leb, lt-leb}
use Rattle.arctangents.specs.Inside.ArctangentValues as ArctangentValues
use Rattle.arctangents.proofs.Sides.{sure_below, unsure_below}
use Rattle.arctangents.proofs.Nearly.{shifted, one_of, none_of, high_of, above_west, above_small, above_south, above_north}
use Rattle.arctangents.proofs.below.Goals as goal

never : (c : ℕ) → 9 * 2 ^ 60 < c → c ≤ 9 * 2 ^ 60 → ⊥
never c h k = omega arith

some : (s : ℕ) → 0 < s + 8192
some s = omega arith

cosine_side : (c : ℕ) → 8192 ≤ c → c - 8192 + 0 + 8192 ≤ c
cosine_side c h = omega arith

pub returns-then-cn-gt0 : goal.returns-then-cn-gt0
unfolding ArctangentValues.below
returns-then-cn-gt0 c =
    let a = c.args in
    record { below = λ t. absurd (true≢false (sym t)); nearly_above = λ t g p q v. above_west a.p.cn a.p.c a.p.sn a.p.s p q c.if-cn-gt0.true g; value = rw (lt-leb _ _ c.if-cn-gt0.true) }

pub returns-then-c-lt8192 : goal.returns-then-c-lt8192
unfolding ArctangentValues.below
returns-then-c-lt8192 c =
    let a = c.args in
    record { below = λ t. absurd (true≢false (sym t)); nearly_above = λ t g p q v. above_small a.p.cn a.p.c a.p.sn a.p.s p q c.if-cn-gt0.false c.if-c-lt8192.true g; value = rw (le-leb _ _ c.if-cn-gt0.false, lt-leb _ _ c.if-c-lt8192.true) }

pub returns-then-c-gt10376293541461622784 : goal.returns-then-c-gt10376293541461622784
unfolding ArctangentValues.below
returns-then-c-gt10376293541461622784 c = record { below = λ t. absurd (true≢false (sym t)); nearly_above = λ t g. absurd (never c.args.p.c c.if-c-gt10376293541461622784.true g.c_most); value = rw (le-leb _ _ c.if-cn-gt0.false, le-leb _ _ c.if-c-lt8192.false, lt-leb _ _ c.if-c-gt10376293541461622784.true) }

pub returns-then-s-gt10376293541461622784 : goal.returns-then-s-gt10376293541461622784
unfolding ArctangentValues.below
returns-then-s-gt10376293541461622784 c = record { below = λ t. absurd (true≢false (sym t)); nearly_above = λ t g. absurd (never c.args.p.s c.if-s-gt10376293541461622784.true g.s_most); value = rw (le-leb _ _ c.if-cn-gt0.false, le-leb _ _ c.if-c-lt8192.false, le-leb _ _ c.if-c-gt10376293541461622784.false, lt-leb _ _ c.if-s-gt10376293541461622784.true) }

pub returns-then-sn-gt0 : goal.returns-then-sn-gt0
unfolding ArctangentValues.below
returns-then-sn-gt0 c =
    let a = c.args in
    let k = none_of a.p.cn c.if-cn-gt0.false a.p.c in
    let l = one_of a.p.sn c.if-sn-gt0.true a.p.s in
    let h = c.high.result in
    let i = high_of (a.p.c - 8192) a.x.m h c.args.x.digits.1 c.high.ensures.high in record {
      below = λ t. record {
        top = a.p.c - 8192;
        bottom = 8192;
        east_side = rw (k.0, k.1) (cosine_side a.p.c c.if-c-lt8192.false);
        north_side = rw (l.0, l.1) (go a.p.s);
        sure = sure_below (a.p.c - 8192) 8192 a.x.m a.x.e h i (c.reaches.ensures.sure t);
      };
      nearly_above = λ t g p q v. above_south a.p.cn a.p.c a.p.sn a.p.s p q c.if-cn-gt0.false c.if-sn-gt0.true c.if-c-lt8192.false g (unsure_below (a.p.c - 8192) 8192 a.x.m a.x.e h i c.args.x.digits.0 (c.reaches.ensures.unsure t (zero-lt-suc 8191)) p q v);
      value = rw (le-leb _ _ c.if-cn-gt0.false, le-leb _ _ c.if-c-lt8192.false, le-leb _ _ c.if-c-gt10376293541461622784.false, le-leb _ _ c.if-s-gt10376293541461622784.false, lt-ltb _ _ c.if-sn-gt0.true, ← shifted a.x.m c.args.x.digits.1, c.reaches.ensures.value, c.high.ensures.value);
    }
  where
    go : (s : ℕ) → 0 + 8192 ≤ 8192 + s
    go s = omega arith

pub returns : goal.returns
unfolding ArctangentValues.below
returns c =
    let a = c.args in
    let k = none_of a.p.cn c.if-cn-gt0.false a.p.c in
    let l = none_of a.p.sn c.if-sn-gt0.false a.p.s in
    let h = c.high-2.result in
    let i = high_of (a.p.c - 8192) a.x.m h c.args.x.digits.1 c.high-2.ensures.high in record {
      below = λ t. record {
        top = a.p.c - 8192;
        bottom = a.p.s + 8192;
        east_side = rw (k.0, k.1) (cosine_side a.p.c c.if-c-lt8192.false);
        north_side = rw (l.0, l.1) (go a.p.s);
        sure = sure_below (a.p.c - 8192) (a.p.s + 8192) a.x.m a.x.e h i (c.reaches-2.ensures.sure t);
      };
      nearly_above = λ t g p q v. above_north a.p.cn a.p.c a.p.sn a.p.s p q c.if-cn-gt0.false c.if-sn-gt0.false c.if-c-lt8192.false (unsure_below (a.p.c - 8192) (a.p.s + 8192) a.x.m a.x.e h i c.args.x.digits.0 (c.reaches-2.ensures.unsure t (some a.p.s)) p q v);
      value = rw (le-leb _ _ c.if-cn-gt0.false, le-leb _ _ c.if-c-lt8192.false, le-leb _ _ c.if-c-gt10376293541461622784.false, le-leb _ _ c.if-s-gt10376293541461622784.false, le-ltb _ _ c.if-sn-gt0.false, ← shifted a.x.m c.args.x.digits.1, c.reaches-2.ensures.value, c.high-2.ensures.value);
    }
  where
    go : (s : ℕ) → s + 8192 ≤ s + 8192 + 0
    go s = omega arith

-- `arctangents::above` meets its contract (`proofs/Sides.antt`, `proofs/Nearly.antt`). Assumes nothing.
use mathlib.Core.Path.{sym}
use mathlib.Core.Bool.{true≢false}
use Prim.Native.Nat.{ℕ, ◌+◌, ◌-◌, ◌*◌, ◌^◌, ◌≤◌, ◌<◌, zero-le}
use native.Mathlib.Nat.{le_trans, le_of_eq, zero-mul}
use native.Mathlib.Omega.{arith}
use borrow.Author.Tests.{lt-ltb, le-ltb, le-leb, lt-leb}
use Rattle.circle.specs.Inside.Signed.{plus, less}
use Rattle.arctangents.specs.Inside.ArctangentValues as ArctangentValues
use Rattle.arctangents.proofs.Sides.{sure_above, unsure_above}
use Rattle.arctangents.proofs.Nearly.{shifted, one_of, none_of, high_of, below_negative, below_small, below_west, below_east}
use Rattle.arctangents.proofs.above.Goals as goal

never : (c : ℕ) → 9 * 2 ^ 60 < c → c ≤ 9 * 2 ^ 60 → ⊥
never c h k = omega arith

some : (h : ℕ) → 0 < h + 4
some h = omega arith

-- the sine's side is the same in all cases
sine_side : (sn s : ℕ) → sn ≤ 0 → 8192 ≤ s → s - 8192 + less sn s + 8192 ≤ plus sn s
sine_side sn s h l = rw ((none_of sn h s).0, (none_of sn h s).1) (go s l)
  where
    go : (s : ℕ) → 8192 ≤ s → s - 8192 + 0 + 8192 ≤ s
    go s l = omega arith

plain : (c : ℕ) → 8192 ≤ c → 0 + 8192 ≤ 0 + c
plain c h = omega arith

pub returns-then-sn-gt0 : goal.returns-then-sn-gt0
unfolding ArctangentValues.above
returns-then-sn-gt0 c =
    let a = c.args in
    record { above = λ t. absurd (true≢false (sym t)); nearly_below = λ t g p q v. below_negative a.p.cn a.p.c a.p.sn a.p.s p q c.if-sn-gt0.true g; value = rw (lt-leb _ _ c.if-sn-gt0.true) }

pub returns-then-s-lt8192 : goal.returns-then-s-lt8192
unfolding ArctangentValues.above
returns-then-s-lt8192 c =
    let a = c.args in
    record { above = λ t. absurd (true≢false (sym t)); nearly_below = λ t g p q v. below_small a.p.cn a.p.c a.p.sn a.p.s p q c.if-sn-gt0.false c.if-s-lt8192.true g; value = rw (le-leb _ _ c.if-sn-gt0.false, lt-leb _ _ c.if-s-lt8192.true) }

pub returns-then-c-gt10376293541461622784 : goal.returns-then-c-gt10376293541461622784
unfolding ArctangentValues.above
returns-then-c-gt10376293541461622784 c = record { above = λ t. absurd (true≢false (sym t)); nearly_below = λ t g. absurd (never c.args.p.c c.if-c-gt10376293541461622784.true g.c_most); value = rw (le-leb _ _ c.if-sn-gt0.false, le-leb _ _ c.if-s-lt8192.false, lt-leb _ _ c.if-c-gt10376293541461622784.true) }

pub returns-then-c-ge8192 : goal.returns-then-c-ge8192
unfolding ArctangentValues.above
returns-then-c-ge8192 c =
    let a = c.args in
    let k = one_of a.p.cn c.if-cn-gt0.true a.p.c in record {
      above = λ t. record {
        top = 0;
        bottom = a.p.s - 8192;
        east_side = rw (k.0, k.1) (plain a.p.c c.if-c-ge8192.true);
        north_side = sine_side a.p.sn a.p.s c.if-sn-gt0.false c.if-s-lt8192.false;
        sure = λ p q v. le_trans (le_of_eq (zero-mul p)) zero-le;
      };
      nearly_below = λ t. absurd (true≢false t);
      value = rw (le-leb _ _ c.if-sn-gt0.false, le-leb _ _ c.if-s-lt8192.false, le-leb _ _ c.if-c-gt10376293541461622784.false, lt-ltb _ _ c.if-cn-gt0.true, le-leb _ _ c.if-c-ge8192.true);
    }

pub returns-then-cn-gt0 : goal.returns-then-cn-gt0
unfolding ArctangentValues.above
returns-then-cn-gt0 c =
    let a = c.args in
    let k = one_of a.p.cn c.if-cn-gt0.true a.p.c in
    let h = c.high.result in
    let i = high_of (8192 - a.p.c) a.x.m h c.args.x.digits.1 c.high.ensures.high in record {
      above = λ t. record {
        top = 8192 - a.p.c;
        bottom = a.p.s - 8192;
        east_side = rw (k.0, k.1) (go a.p.c c.if-c-ge8192.false);
        north_side = sine_side a.p.sn a.p.s c.if-sn-gt0.false c.if-s-lt8192.false;
        sure = sure_above (8192 - a.p.c) (a.p.s - 8192) a.x.m a.x.e h i (c.reaches.ensures.sure t);
      };
      nearly_below = λ t g p q v. below_west a.p.cn a.p.c a.p.sn a.p.s p q c.if-cn-gt0.true c.if-sn-gt0.false c.if-s-lt8192.false c.if-c-ge8192.false (unsure_above (8192 - a.p.c) (a.p.s - 8192) a.x.m a.x.e h i c.args.x.digits.0 (c.reaches.ensures.unsure t (some h)) p q v);
      value = rw (le-leb _ _ c.if-sn-gt0.false, le-leb _ _ c.if-s-lt8192.false, le-leb _ _ c.if-c-gt10376293541461622784.false, lt-ltb _ _ c.if-cn-gt0.true, lt-leb _ _ c.if-c-ge8192.false, ← shifted a.x.m c.args.x.digits.1, c.reaches.ensures.value, c.high.ensures.value);
    }
  where
    go : (c : ℕ) → c < 8192 → 0 + 8192 ≤ 8192 - c + c
    go c h = omega arith

pub returns : goal.returns
unfolding ArctangentValues.above
returns c =
    let a = c.args in
    let k = none_of a.p.cn c.if-cn-gt0.false a.p.c in
    let h = c.high-2.result in
    let i = high_of (a.p.c + 8192) a.x.m h c.args.x.digits.1 c.high-2.ensures.high in record {
      above = λ t. record {
        top = a.p.c + 8192;
        bottom = a.p.s - 8192;
        east_side = rw (k.0, k.1) (go a.p.c);
        north_side = sine_side a.p.sn a.p.s c.if-sn-gt0.false c.if-s-lt8192.false;
        sure = sure_above (a.p.c + 8192) (a.p.s - 8192) a.x.m a.x.e h i (c.reaches-2.ensures.sure t);
      };
      nearly_below = λ t g p q v. below_east a.p.cn a.p.c a.p.sn a.p.s p q c.if-cn-gt0.false c.if-sn-gt0.false c.if-s-lt8192.false (unsure_above (a.p.c + 8192) (a.p.s - 8192) a.x.m a.x.e h i c.args.x.digits.0 (c.reaches-2.ensures.unsure t (some h)) p q v);
      value = rw (le-leb _ _ c.if-sn-gt0.false, le-leb _ _ c.if-s-lt8192.false, le-leb _ _ c.if-c-gt10376293541461622784.false, le-ltb _ _ c.if-cn-gt0.false, ← shifted a.x.m c.args.x.digits.1, c.reaches-2.ensures.value, c.high-2.ensures.value);
    }
  where
    go : (c : ℕ) → c + 8192 ≤ c + 8192 + 0
    go c = omega arith

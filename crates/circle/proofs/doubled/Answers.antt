-- `circle::doubled` meets its contract. Assumes nothing.
use borrow.Author.Tests.{lt-ltb, le-ltb}
use Rattle.circle.specs.Inside.CircleValues as CircleValues
use Rattle.circle.proofs.Squares.{doubled_less, doubled_more}
use Rattle.circle.proofs.doubled.Goals as goal
use Rattle.circle.proofs.doubled.Goals.{After-high-s, Start}

pub returns-then-cc-ss : goal.returns-then-cc-ss
unfolding CircleValues.doubled
returns-then-cc-ss c =
    let p = c.args.p in
    record { doubled = doubled_less p.c p.s c.high-cc.result c.high-ss.result c.high-s.result c.high-cc.ensures.high c.high-ss.ensures.high c.high-s.ensures.high _ _ c.if-cc-ss.true; value = rw (← c.high-cc.ensures.value, ← c.high-ss.ensures.value, ← c.high-s.ensures.value, lt-ltb _ _ c.if-cc-ss.true) }

pub returns-else-cc-ss : goal.returns-else-cc-ss
unfolding CircleValues.doubled
returns-else-cc-ss c =
    let p = c.args.p in
    record { doubled = doubled_more p.c p.s c.high-cc.result c.high-ss.result c.high-s.result c.high-cc.ensures.high c.high-ss.ensures.high c.high-s.ensures.high _ _ c.if-cc-ss.false; value = rw (← c.high-cc.ensures.value, ← c.high-ss.ensures.value, ← c.high-s.ensures.value, le-ltb _ _ c.if-cc-ss.false) }

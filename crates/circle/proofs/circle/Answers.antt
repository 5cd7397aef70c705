-- `circle::circle` meets its contract. Assumes nothing.
use mathlib.Core.Path.{◌≡◌, sym}
use Prim.Native.Nat.{ℕ, ◌+◌, ◌*◌, ◌≤◌, ◌<◌}
use native.Mathlib.Nat.{le_trans, le_of_eq, add_comm}
use native.Mathlib.Omega.{arith}
use native.Mathlib.Numerals.{add-one}
use Rattle.circle.specs.Inside.CircleValues as CircleValues
use Rattle.circle.proofs.Follows.{Follows, follows_first, follows_next, follows_last, doubled_fits, size_most}
use Rattle.circle.proofs.circle.Goals as goal
use Rattle.circle.proofs.circle.Goals.{After-loop}

ten : (j n : ℕ) → j < n → n ≤ 11 → j ≤ 10
ten j n h k = omega arith

-- all turns are done
end : (c : After-loop) → c.loop.counter ≡ c.args.doublings
end c = omega arith

follows : (c : After-loop) → let p = c.loop.p in Follows c.args.y c.args.doublings p.cn p.c p.sn p.s
follows c = rw (← (end c)) c.loop.invariant.0

pub loop-init : goal.loop-init
unfolding CircleValues.circle CircleValues.first
loop-init c =
    let p = c.first-p in
    (rw p.ensures.value (rw p.ensures.value at (follows_first c.args.y p.result.c p.result.s p.ensures.first)), sym p.ensures.value)

pub doubled-p-requires : goal.doubled-p-requires
doubled-p-requires c =
    let l = c.loop in
    let f = l.invariant.0 in
    (doubled_fits (l.p.c * l.p.c + l.p.s * l.p.s) l.counter (ten l.counter c.args.doublings c.loop-test.true c.requires.1) f.size, f.c_sign, f.s_sign)

pub loop-preserved : goal.loop-preserved
unfolding CircleValues.circle
loop-preserved c =
    let l = c.loop in
    let p = l.p in
    let r = c.doubled-p.result in (
      rw (add-one l.counter) (follows_next c.args.y l.counter p.cn p.c p.sn p.s r.cn r.c r.sn r.s c.requires.0 (ten l.counter c.args.doublings c.loop-test.true c.requires.1) l.invariant.0 c.doubled-p.ensures.doubled),
      rw (add-one l.counter, l.invariant.1, ← c.doubled-p.ensures.value),
    )

pub returns : goal.returns
returns c =
    let n = c.args.doublings in
    let p = c.loop.p in
    let f = follows c in
    record { circle = follows_last c.args.y n p.cn p.c p.sn p.s c.requires.1 f; bounds = (size_most p.c p.s n c.requires.1 f.size, size_most p.s p.c n c.requires.1 (le_trans (le_of_eq (add_comm (p.s * p.s) (p.c * p.c))) f.size)); value = rw (← (end c)) (sym c.loop.invariant.1) }

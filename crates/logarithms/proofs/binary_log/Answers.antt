-- `logarithms::binary_log` meets its contract. Assumes nothing.
use mathlib.Core.Path.{◌≡◌, refl, ap, ◌∙◌}
use Prim.Native.Nat.{ℕ, ◌*◌, ◌^◌, ◌≤◌, ◌<◌}
use native.Mathlib.Omega.{arith}
use native.Mathlib.Numerals.{add-one}
use Rattle.logarithms.specs.Inside.LogarithmValues.{turned, binary_log}
use Rattle.logarithms.proofs.Squaring.{turn, close_first, close_next, close_last, square_in}
use Rattle.logarithms.proofs.binary_log.Goals as goal
use Rattle.logarithms.proofs.binary_log.Goals.{In-loop}

sq : (c : In-loop) → (2 ^ 62 ≤ c.loop.y * c.loop.y) × (c.loop.y * c.loop.y < 2 ^ 64)
sq c = square_in c.loop.y c.loop.invariant.0.least c.loop.invariant.0.most

pub loop-init : goal.loop-init
unfolding turned
loop-init c = (close_first c.args.x.m c.args.x.digits.0 c.args.x.digits.1, refl, refl)

pub loop-preserved : goal.loop-preserved
unfolding turned
loop-preserved c =
    let l = c.loop in
    let s = sq c in
    (rw (add-one l.counter) (close_next c.args.x.m l.y l.k l.counter _ _ l.invariant.0 (turn (l.y * l.y) s.0 s.1)), rw (add-one l.counter, l.invariant.1), rw (add-one l.counter, l.invariant.1, l.invariant.2))

pub returns : goal.returns
unfolding binary_log
returns c = record { binary_log = close_last c.args.x.m c.loop.y c.loop.k c.loop.counter (omega arith) c.loop.invariant.0; value = let h : c.loop.counter ≡ 22 = omega arith in c.loop.invariant.2 ∙ ap (λ (i : ℕ). (turned c.args.x.m i).k) h }

-- `records::text::hexadecimal` meets its contract. The loop's invariant: with the digits that are left put in front, the buffer is what it is to become. Assumes nothing.
use mathlib.Core.Path.{◌≡◌, refl, sym, ap, ◌∙◌}
use mathlib.Core.List.{◌++◌, append-nil}
use Prim.Native.Nat.{ℕ, suc, ◌+◌, ◌-◌, ◌/◌, ◌<◌}
use native.Mathlib.Nat.{add-zero}
use native.Mathlib.Omega.{arith}
use lib.ListN.{length, take, drop, take-append-drop, length-set}
use Rattle.records.specs.Text.{hexadecimal}
use Rattle.records.proofs.Laws.{put_before, hexadecimal_length}
use Rattle.records.proofs.text.hexadecimal.Goals as goal

pub loop-i-preserved : goal.loop-i-preserved
unfolding hexadecimal
loop-i-preserved c =
    let l = c.loop-i in
    let at = c.args.at in
    let j = l.i - 1 in
    let e : suc j ≡ l.i = omega arith in
    let room : at + j < length l.out = omega arith in (
      length-set l.out (at + j) c.digit.result ∙ l.invariant.0,
      put_before l.out at j c.digit.result (hexadecimal j (l.rest / 16)) room
          ∙ rw c.digit.ensures (ap (λ (k : ℕ). take at l.out ++ hexadecimal k l.rest ++ drop (at + k) l.out) e)
          ∙ l.invariant.1,
    )

pub returns : goal.returns
unfolding hexadecimal
returns c =
    let l = c.loop-i in
    let at = c.args.at in
    let e : l.i ≡ 0 = omega arith in
    let all : take at l.out ++ hexadecimal 0 l.rest ++ drop (at + 0) l.out ≡ l.out =
    rw (add-zero at, append-nil (take at l.out)) (take-append-drop at l.out) in
    record { put = record { ends = ap (λ (k : ℕ). at + k) (sym (hexadecimal_length 16 c.args.n)); fits = omega arith; shows = sym all ∙ rw e at l.invariant.1 }; value = refl }

-- `angular::sums::su1_of` meets its contract. The invariant: what is left to add gives what the whole gives, over every list that begins as ck, and p is the k-th power of x1. Assumes nothing.
use Prim.Native.Nat.{ℕ, suc, ◌+◌, ◌-◌}
use mathlib.Core.Path.{◌≡◌, refl, sym, ◌∙◌}
use native.Mathlib.Omega.{arith}
use native.Mathlib.Numerals.{add-one}
use native.Mathlib.Nat.{add-zero}
use mathlib.Core.List.{List}
use lib.Ieee.{Float}
use Rattle.arith.specs.Double.{◌⊕◌, ◌⊗◌, at}
use Rattle.arith.specs.Powers.{power}
use Rattle.arith.proofs.Flags.{not_taken}
use Rattle.angular.specs.Aswfa.{summed, value_term, su1_of}
use Rattle.angular.specs.Inside.Stages.{Agree}
use Rattle.angular.proofs.Laws.{summed_stop, summed_on}
use Rattle.angular.proofs.sums.su1_of.Goals as goal

pub loop-k-init : goal.loop-k-init
unfolding power su1_of
loop-k-init c = (
  refl,
  λ ys same more. let h : suc (c.args.nm2 + more) - 1 ≡ c.args.nm2 + more = omega arith in rw (h, same 0 (omega arith)),
)

pub returns-then-negligible : goal.returns-then-negligible
returns-then-negligible c = let a = c.args in
    let l = c.loop-k in
    let all : (ys : List Float) → Agree (a.nm2 + 1) a.ck.now ys → (more : ℕ) → l.su1 ⊕ at a.ck.now l.k ⊗ l.p ≡ su1_of ys a.x1 (a.nm2 + more) = λ ys same more.
    let h : suc (a.nm2 + more) - l.k ≡ suc (a.nm2 + more - l.k) = omega arith in
    summed_stop (value_term ys a.x1) (a.nm2 + more - l.k) l.k _ l.su1 (rw (l.invariant.0, same l.k (omega arith))) (sym c.negligible.ensures ∙ c.if-negligible.true) ∙ rw h at (l.invariant.1 ys same more) in
    record { su_value = rw (add-zero a.nm2) at (all a.ck.now (λ i g. refl) 0); fact = λ e ys same more. sym (all ys same more) }

pub loop-k-preserved : goal.loop-k-preserved
unfolding power
loop-k-preserved c = let a = c.args in
    let l = c.loop-k in (
      rw (add-one l.k, l.invariant.0),
      λ ys same more.
          let h : suc (a.nm2 + more) - l.k ≡ suc (a.nm2 + more - l.k) = omega arith in
          let h' : suc (a.nm2 + more) - suc l.k ≡ a.nm2 + more - l.k = omega arith in
          rw (add-one l.k, h') (summed_on (value_term ys a.x1) (a.nm2 + more - l.k) l.k _ l.su1 (rw (l.invariant.0, same l.k (omega arith))) (sym c.negligible.ensures ∙ c.if-negligible.false) ∙ rw h at (l.invariant.1 ys same more)),
    )

pub returns : goal.returns
unfolding summed
returns c = let a = c.args in
    let h : suc (a.nm2 + 0) - c.loop-k.k ≡ 0 = omega arith in
    record { su_value = rw (h, add-zero a.nm2) at (c.loop-k.invariant.1 a.ck.now (λ i g. refl) 0); fact = λ e. not_taken e }

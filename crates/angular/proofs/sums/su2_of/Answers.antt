-- `angular::sums::su2_of` meets its contract. The invariant: what is left to add gives what the whole gives, over every list that begins as ck, and p is the power of x1 below the k-th. Assumes nothing.
use Prim.Native.Nat.{ℕ, suc, ◌+◌, ◌-◌}
use mathlib.Core.Path.{◌≡◌, refl, sym, ◌∙◌}
use native.Mathlib.Omega.{arith}
use native.Mathlib.Numerals.{add-one}
use native.Mathlib.Nat.{add-zero}
use mathlib.Core.List.{List}
use lib.Ieee.{Float}
use Rattle.arith.specs.Double.{◌⊕◌, ◌⊗◌, dbl, at}
use Rattle.arith.specs.Powers.{power}
use Rattle.arith.proofs.Flags.{not_taken}
use Rattle.angular.specs.Aswfa.{summed, derivative_term, su2_of}
use Rattle.angular.specs.Inside.Stages.{Agree}
use Rattle.angular.proofs.Laws.{summed_stop, summed_on}
use Rattle.angular.proofs.sums.su2_of.Goals as goal

pub loop-k-init : goal.loop-k-init
unfolding power su2_of
loop-k-init c = (
  refl,
  λ ys same more. let h : suc (c.args.nm2 + more) - 2 ≡ c.args.nm2 + more - 1 = omega arith in rw (h, same 1 (omega arith)),
)

pub returns-then-negligible : goal.returns-then-negligible
returns-then-negligible c = let a = c.args in
    let l = c.loop-k in
    let all : (ys : List Float) → Agree (a.nm2 + 1) a.ck.now ys → (more : ℕ) → l.su2 ⊕ dbl l.k ⊗ at a.ck.now l.k ⊗ l.p ≡ su2_of ys a.x1 (a.nm2 + more) = λ ys same more.
    let h : suc (a.nm2 + more) - l.k ≡ suc (a.nm2 + more - l.k) = omega arith in
    summed_stop (derivative_term ys a.x1) (a.nm2 + more - l.k) l.k _ l.su2 (rw (l.invariant.0, same l.k (omega arith))) (sym c.negligible.ensures ∙ c.if-negligible.true) ∙ rw h at (l.invariant.1 ys same more) in
    record { su_value = rw (add-zero a.nm2) at (all a.ck.now (λ i g. refl) 0); fact = λ e ys same more. sym (all ys same more) }

pub loop-k-preserved : goal.loop-k-preserved
unfolding power
loop-k-preserved c = let a = c.args in
    let l = c.loop-k in
    let g : l.k + 1 - 1 ≡ suc (l.k - 1) = omega arith in (
      rw (g, l.invariant.0),
      λ ys same more.
          let h : suc (a.nm2 + more) - l.k ≡ suc (a.nm2 + more - l.k) = omega arith in
          let h' : suc (a.nm2 + more) - suc l.k ≡ a.nm2 + more - l.k = omega arith in
          rw (add-one l.k, h') (summed_on (derivative_term ys a.x1) (a.nm2 + more - l.k) l.k _ l.su2 (rw (l.invariant.0, same l.k (omega arith))) (sym c.negligible.ensures ∙ c.if-negligible.false) ∙ rw h at (l.invariant.1 ys same more)),
    )

pub returns : goal.returns
unfolding summed
returns c = let a = c.args in
    let h : suc (a.nm2 + 0) - c.loop-k.k ≡ 0 = omega arith in
    record { su_value = rw (h, add-zero a.nm2) at (c.loop-k.invariant.1 a.ck.now (λ i g. refl) 0); fact = λ e. not_taken e }

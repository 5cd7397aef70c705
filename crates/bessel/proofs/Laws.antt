-- How the search for an order and the recurrence unfold, in the form in which the proofs of the code meet it. Assumes nothing.
use Prim.Native.Nat.{ℕ, suc, ◌+◌, ◌≤◌, ◌<◌}
use mathlib.Core.Path.{◌≡◌, refl, sym, ◌∙◌}
use mathlib.Core.Bool.{Bool, true, false, cond, ◌&&◌}
use mathlib.Core.List.{List}
use lib.Dec.{T, eqb, ltb, leb, ltb→lt, leb→le}
use Rattle.std.proofs.Common.{Option, Some, None, IfSome, unwrap_or}
use native.Mathlib.Omega.{arith}
use Rattle.std.proofs.lemmas.Option.{cond_some, none-some}
use lib.Ieee.{Float}
use lib.ListN.{set}
use Rattle.arith.specs.Double.{◌⊕◌, ◌⊖◌, ◌⊗◌, ◌⊘◌, dbl, at, #1, #2, #3}
use Rattle.arith.proofs.Flags.{not_taken}
use Rattle.bessel.specs.Secant.{may_try, meeting, excess, secant, searched}
use Rattle.bessel.specs.declared.sphj.Orders.{Orders}
use Rattle.bessel.specs.declared.sphj.Lowest.{Lowest}
use Rattle.bessel.specs.Sphj.{blank, tiny, orders, lowest, Recurrence, step, steps_down, recurred, factor, scaled, derived, sj, dj}

-- ---- what the answer of `tried` says of an order
pub may : (n k : ℕ) (r : Option ℕ) → r ≡ cond (may_try n) (Some n) None → r ≡ Some k → (may_try n ≡ true) × (n ≡ k)
may n k r e h = cond_some _ _ _ (sym e ∙ h)

pub may_not : (n : ℕ) (r : Option ℕ) → r ≡ cond (may_try n) (Some n) None → r ≡ None → may_try n ≡ false
may_not n r e h = go (may_try n) (sym e ∙ h)
  where
    go : (b : Bool) → cond b (Some n) None ≡ None → b ≡ false
    go true e = absurd (none-some n (sym e))
    go false e = refl

-- ---- a step of the search, to the order k
module _ (a0 obj : Float) (left n0 : ℕ) (f0 : Float) (n1 : ℕ) (f1 : Float) (k : ℕ) (e : k ≡ meeting n0 f0 n1 f1) where
  pub not_tried : may_try k ≡ false → 0 ≡ secant a0 obj (suc left) n0 f0 n1 f1
  unfolding secant
  not_tried h = sym (rw (rw e at h, secant))

  pub again : may_try k ≡ true → eqb k n1 ≡ true → k ≡ secant a0 obj (suc left) n0 f0 n1 f1
  unfolding secant
  again h t = e ∙ sym (rw (rw e at h, rw e at t, secant))

  pub onward : may_try k ≡ true → eqb k n1 ≡ false → secant a0 obj left n1 f1 k (excess a0 obj k) ≡ secant a0 obj (suc left) n0 f0 n1 f1
  unfolding secant
  onward h t = rw e (sym (rw (rw e at h, rw e at t, secant)))

-- ---- the first two orders
module _ (a0 obj : Float) (n0 : ℕ) where
  pub first_refused : may_try n0 ≡ false → 0 ≡ searched a0 obj n0
  unfolding searched
  first_refused h = sym (rw (h, searched))

  pub second_refused : may_try n0 ≡ true → may_try (n0 + 5) ≡ false → 0 ≡ searched a0 obj n0
  unfolding searched
  second_refused h k = sym (rw (h, k, searched))

  pub both_tried : may_try n0 ≡ true → may_try (n0 + 5) ≡ true → secant a0 obj 20 n0 (excess a0 obj n0) (n0 + 5) (excess a0 obj (n0 + 5)) ≡ searched a0 obj n0
  unfolding searched
  both_tried h k = sym (rw (h, k, searched))

-- ---- an order that may be tried is from 1 to 100,000
pub tried_bounds : (k : ℕ) → may_try k ≡ true → (0 < k) × (k ≤ 100000)
unfolding may_try
tried_bounds k h = go (ltb 0 k) (leb k 100000) (ltb→lt 0 k) (leb→le k 100000) h
  where
    go : (a b : Bool) → (T a → 0 < k) → (T b → k ≤ 100000) → (a && b) ≡ true → (0 < k) × (k ≤ 100000)
    go true true f g h = (f tt, g tt)
    go true false f g h = not_taken h
    go false b f g h = not_taken h

-- ---- a step of the recurrence, to order k
module _ (x : Float) (nm k : ℕ) (f0 f1 : Float) (sj : List Float) where
  abbrev next : Float
  next = (#2 ⊗ dbl k ⊕ #3) ⊗ f1 ⊘ x ⊖ f0

  pub kept : leb k nm ≡ true → steps_down x nm k (record { f0 = f1; f1 = next; sj = set sj k next }) ≡ steps_down x nm (suc k) (record { f0 = f0; f1 = f1; sj = sj })
  unfolding steps_down step
  kept h = sym (rw h)

  pub passed : leb k nm ≡ false → steps_down x nm k (record { f0 = f1; f1 = next; sj = sj }) ≡ steps_down x nm (suc k) (record { f0 = f0; f1 = f1; sj = sj })
  unfolding steps_down step
  passed h = sym (rw h)

-- ---- the derivative of order k
pub one_derived : (x : Float) (sj d s : List Float) (k j : ℕ) → k ≡ suc j → s ≡ derived x sj j d → set s k (at sj j ⊖ (dbl k ⊕ #1) ⊗ at sj k ⊘ x) ≡ derived x sj k d
unfolding derived
one_derived x sj d s k j e h = rw (e, h)

-- ---- the functions and their derivatives, in places b and b' that were zero
module _ (x : Float) (n : ℕ) (b b' : List Float) (e : b ≡ blank) (e' : b' ≡ blank) where
  pub near_zero : tiny x ≡ true → (set b 0 #1 ≡ sj x n) × (set b' 1 (#1 ⊘ #3) ≡ dj x n)
  unfolding sj dj
  near_zero h = (rw e (sym (rw h)), rw e' (sym (rw h)))

  pub far_off : tiny x ≡ false → (o : Orders) (l : Lowest) (r : Recurrence) (cs : Float) (k : ℕ) (s d : List Float) → o ≡ orders x n → l ≡ lowest x → r ≡ recurred x o.nm o.from b
      → cs ≡ factor l.sa l.sb r.f0 r.f1 → k ≡ suc o.nm → s ≡ scaled cs k r.sj → d ≡ derived x s o.nm (set b' 0 l.da) → (s ≡ sj x n) × (d ≡ dj x n)
  unfolding sj dj
  far_off h o l r cs k s d ho hl hr hc hk hs hd = (is_s, hd ∙ rw (is_s, ho, hl, e') (sym (rw h)))
    where
      is_s : s ≡ sj x n
      is_s = hs ∙ rw (hc, hk, hr, hl, ho, e) (sym (rw h))

-- ---- an order that was found, or 0, is at most what bounds one that was found
pub most : (r : Option ℕ) (a b : ℕ) → IfSome r (λ k. (a < k) × (k ≤ b)) → unwrap_or r 0 ≤ b
most None a b h = omega arith
most (Some k) a b h = h.1

-- How the definitions of `aswfa` unfold, in the form in which the proofs of the code meet them. Assumes nothing.
use Prim.Native.Nat.{ℕ, zero, suc, ◌+◌, ◌-◌, ◌%◌, ◌<◌, ◌≤◌}
use mathlib.Core.Path.{◌≡◌, refl, sym, ◌∙◌}
use mathlib.Core.Bool.{Bool, true, false, cond, ◌&&◌}
use mathlib.Core.List.{List}
use native.Mathlib.Omega.{arith}
use borrow.Author.Tests.{ne_eqb}
use lib.Dec.{eqb}
use lib.Ieee.{Float, eq}
use Rattle.arith.specs.Double.{◌⊕◌, at, #0, #1}
use Rattle.arith.specs.Choice.{abs}
use Rattle.arith.specs.Powers.{power}
use Rattle.arith.proofs.Flags.{not_taken}
use Rattle.expansion.specs.Products.{half_of_m}
use Rattle.expansion.specs.Sdmn.{sdmn}
use Rattle.expansion.specs.Sckb.{sckb}
use Rattle.expansion.specs.declared.values.Pair.{Pair}
use Rattle.angular.specs.Inside.Stages.{Agree}
use Rattle.angular.specs.Aswfa.{a0_of, negligible, summed, value_term, derivative_term, su1_of, su2_of, derivative_at_one, derivative_inside, before_signs, sign_at, aswfa, nm2_of}

-- ---- x1 to the power m/2: the source's case of m = 0 and x1 = 0 is what the power rule gives
pub a0_is : (m : ℕ) (x1 : Float) → half_of_m x1 m ≡ a0_of m x1
unfolding a0_of power
a0_is zero x1 = go (eq x1 #0)
  where
    go : (t : Bool) → #1 ≡ cond t #1 #1
    go true = refl
    go false = refl
a0_is (suc m) x1 = rw (ne_eqb (suc m) 0 (λ (e : suc m ≡ 0). omega arith))

-- ---- two flags that are both set
pub both : (a b : Bool) → (a && b) ≡ true → (a ≡ true) × (b ≡ true)
both true b h = (refl, h)
both false b h = not_taken h

-- ---- a term of a sum
module _ (term : ℕ → Float) (left k : ℕ) (r su : Float) (is : r ≡ term k) where
  pub summed_stop : negligible k r (su ⊕ r) ≡ true → su ⊕ r ≡ summed term (suc left) k su
  unfolding summed
  summed_stop h = rw is (sym (rw (rw is at h, summed)))

  pub summed_on : negligible k r (su ⊕ r) ≡ false → summed term left (suc k) (su ⊕ r) ≡ summed term (suc left) k su
  unfolding summed
  summed_on h = rw is (sym (rw (rw is at h, summed)))

-- ---- a sum depends on the terms that it reaches
summed_same : (f g : ℕ → Float) (left k : ℕ) (su : Float) → ((i : ℕ) → i < k + left → f i ≡ g i) → summed f left k su ≡ summed g left k su
unfolding summed
summed_same f g zero k su h = refl
summed_same f g (suc left) k su h =
    go (negligible k (g k) (su ⊕ g k)) refl (summed_same f g left (suc k) (su ⊕ g k) (λ (i : ℕ) (l : i < suc k + left). h i (omega arith)))
  where
    here : g k ≡ f k
    here = sym (h k (omega arith))

    go : (t : Bool) → negligible k (g k) (su ⊕ g k) ≡ t → summed f left (suc k) (su ⊕ g k) ≡ summed g left (suc k) (su ⊕ g k) → summed f (suc left) k su ≡ summed g (suc left) k su
    go true e later = sym (summed_stop f left k (g k) su here e) ∙ summed_stop g left k (g k) su refl e
    go false e later = sym (summed_on f left k (g k) su here e) ∙ later ∙ summed_on g left k (g k) su refl e

-- ---- so the pair depends on the coefficients up to nm2
module _ (xs ys : List Float) (nm2 : ℕ) (few : 1 ≤ nm2) (same : Agree (nm2 + 1) xs ys) where
  value_same : (x1 : Float) → su1_of xs x1 nm2 ≡ su1_of ys x1 nm2
  unfolding su1_of
  value_same x1 = rw (same 0 (omega arith)) (summed_same (value_term xs x1) (value_term ys x1) nm2 1 (at ys 0) (λ (i : ℕ) (l : i < 1 + nm2). rw (same i (omega arith))))

  derivative_same : (x1 : Float) → su2_of xs x1 nm2 ≡ su2_of ys x1 nm2
  unfolding su2_of
  derivative_same x1 = rw (same 1 (omega arith)) (summed_same (derivative_term xs x1) (derivative_term ys x1) (nm2 - 1) 2 (at ys 1) (λ (i : ℕ) (l : i < 2 + (nm2 - 1)). rw (same i (omega arith))))

  pub before_signs_same : (m ip : ℕ) (x : Float) → before_signs xs m ip nm2 x ≡ before_signs ys m ip nm2 x
  unfolding before_signs derivative_at_one derivative_inside
  before_signs_same m ip x = rw (value_same _, derivative_same _, same 0 (omega arith), same 1 (omega arith))

-- ---- at 1 the derivative reads two places
pub at_one_same : (xs ys : List Float) (nm2 m ip : ℕ) → 1 ≤ nm2 → Agree (nm2 + 1) xs ys → derivative_at_one ys m ip ≡ derivative_at_one xs m ip
unfolding derivative_at_one
at_one_same xs ys nm2 m ip few same = rw (same 0 (omega arith), same 1 (omega arith))

-- ---- the pair from its parts
pub aswfa_is : (m n : ℕ) (c cv kd x0 : Float) (nm2 : ℕ) (df : List Float) (x : Float) (p : Pair) (v d : Float) → nm2 ≡ nm2_of (n - m) c → df ≡ sdmn m n c cv kd → x ≡ abs x0
    → p ≡ before_signs (sckb df m n c) m ((n - m) % 2) nm2 x → v ≡ sign_at x0 (eqb ((n - m) % 2) 1) p.value → d ≡ sign_at x0 (eqb ((n - m) % 2) 0) p.derivative
    → record { value = v; derivative = d } ≡ aswfa m n c cv kd x0
unfolding aswfa
aswfa_is m n c cv kd x0 nm2 df x p v d hn hf hx hp hv hd = rw (hv, hd, hp, hf, hx, hn)

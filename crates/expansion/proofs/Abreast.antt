-- Four power coefficients at once: their first factors, a term of one of them, and how its sum ends. Assumes nothing.
use Prim.Native.Nat.{ℕ, zero, suc, ◌+◌, ◌-◌, ◌*◌, ◌<◌, ◌≤◌}
use mathlib.Core.Path.{◌≡◌, refl, sym, ◌∙◌}
use mathlib.Core.Bool.{Bool, true, false}
use mathlib.Core.List.{List}
use native.Mathlib.Omega.{arith}
use native.Mathlib.Numerals.{add-one}
use native.Mathlib.Nat.{add-zero}
use lib.Ieee.{Float}
use Rattle.arith.specs.Double.{◌⊗◌, at, #0·5}
use Rattle.expansion.specs.declared.four.Term.{Term}
use Rattle.expansion.specs.Products.{rising, rising_by}
use Rattle.expansion.specs.Sums.{settled}
use Rattle.expansion.specs.Sckb.{terms, first_factor, sum_of}
use Rattle.expansion.specs.Inside.Four.{next_term, term_past_first, rest_of, sum_from}
use Rattle.expansion.proofs.Laws.{terms_stop, terms_on}

-- a product goes on where it stopped
rise_on : (r : Float) (a : ℕ) (x : Float) (n j : ℕ) → rising_by (rising_by r a x n) (a + n) x j ≡ rising_by r a x (n + j)
unfolding rising_by
rise_on r a x n zero = rw (add-zero n)
rise_on r a x n (suc j) =
    let e : n + suc j ≡ suc (n + j) = omega arith in
    let f : a + n + j ≡ a + (n + j) = omega arith in
    rw (e, f, rise_on r a x n j)

-- the first factor of coefficient k + j, of which k + j factors are multiplied in two parts
pub factor_is : (m ip k j s a : ℕ) (reg w p x : Float) → w ≡ rising reg s (2 * m) → s ≡ 2 * (k + j) + ip + 1 → p ≡ rising_by w a #0·5 k → a ≡ k + j + m + ip
    → x ≡ rising_by p (a + k) #0·5 j → x ≡ first_factor m ip reg (k + j)
unfolding first_factor
factor_is m ip k j s a reg w p x hw hs hp ha hx = hx ∙ rw (hp, rise_on w a #0·5 k j, hw, hs, ha)

-- a term that does not end the sum
pub rest_on : (df : List Float) (m ip nm k i j : ℕ) (t u : Term) → i ≤ nm → j ≡ i + 1 → u ≡ next_term df m ip k i t → settled u.sum t.sum ≡ false
    → rest_of df m ip nm k j u ≡ rest_of df m ip nm k i t
rest_on df m ip nm k i j t u h hj e v =
    let a : suc nm - i ≡ suc (nm - i) = omega arith in
    let b : suc nm - (i + 1) ≡ nm - i = omega arith in
    rw (hj, e, b, a, add-one i) (terms_on df m ip k (nm - i) i t.r _ t.sum t.sum refl (rw e at v))

-- the term past the first ends the sum, or it goes on
module _ (df : List Float) (m ip nm k : ℕ) (t : Term) (sw : Float) where
  pub from_stop : settled t.sum sw ≡ true → record { sum = t.sum; sw = sw } ≡ sum_from df m ip nm k t sw
  unfolding sum_from
  from_stop h = sym (rw (h, sum_from))

  pub from_on : settled t.sum sw ≡ false → rest_of df m ip nm k (k + 2) t ≡ sum_from df m ip nm k t sw
  unfolding sum_from
  from_on h = sym (rw (h, sum_from))

-- it is the sum that the definition has
pub sum_from_lem : (df : List Float) (m ip nm k : ℕ) (reg : Float) (t : Term) (sw : Float) → k < nm → t ≡ term_past_first df m ip reg k → sum_from df m ip nm k t sw ≡ sum_of df m ip nm reg k sw
unfolding sum_of
sum_from_lem df m ip nm k reg t sw l e =
    let left : nm - k ≡ suc (nm - (k + 1)) = omega arith in
    let one : suc k ≡ k + 1 = omega arith in
    rw (e, left, one) (go (settled u.sum sw) refl)
  where
    r : Float
    r = first_factor m ip reg k

    u : Term
    u = term_past_first df m ip reg k

    go : (b : Bool) → settled u.sum sw ≡ b → sum_from df m ip nm k u sw ≡ terms df m ip k (suc (nm - (k + 1))) (k + 1) r (r ⊗ at df k) sw
    go true h = sym (from_stop df m ip nm k u sw h) ∙ terms_stop df m ip k (nm - (k + 1)) (k + 1) r _ (r ⊗ at df k) sw refl h
    go false h =
        let a : suc nm - (k + 2) ≡ nm - (k + 1) = omega arith in
        let b : k + 2 ≡ suc (k + 1) = omega arith in
        sym (from_on df m ip nm k u sw h) ∙ rw (a, b) (terms_on df m ip k (nm - (k + 1)) (k + 1) r _ (r ⊗ at df k) sw refl h)

-- How the definitions of `gmn` unfold, in the form in which the proofs of the code meet them. Assumes nothing.
use Prim.Native.Nat.{ℕ, suc, ◌+◌, ◌-◌, ◌*◌, ◌%◌, ◌≤◌}
use mathlib.Core.Path.{◌≡◌, sym, ◌∙◌}
use mathlib.Core.Bool.{true, false}
use mathlib.Core.List.{List}
use native.Mathlib.Omega.{arith}
use native.Mathlib.Numerals.{add-one}
use lib.Ieee.{Float}
use Rattle.arith.specs.Double.{◌⊕◌, ◌⊖◌, ◌⊗◌, ◌⊘◌, dbl, #0, #1}
use Rattle.arith.specs.Powers.{power}
use Rattle.expansion.specs.Terms.{terms_of}
use Rattle.expansion.specs.declared.sckb.Partial.{Partial}
use Rattle.radial_sums.specs.Rmn1.{to_half}
use Rattle.radial.specs.Gmn.{ends, sum_on, value_sum, slope_sum, gmn}

-- ---- a term of a sum
module _ (term : ℕ → Float) (left k : ℕ) (r sum gw : Float) (is : r ≡ term k) where
  stops_at : ends k (sum ⊕ r) gw ≡ true → record { sum = sum ⊕ r; sw = gw } ≡ sum_on term (suc left) k sum gw
  unfolding sum_on
  stops_at h = rw is (sym (rw (rw is at h, sum_on)))

  goes_on : ends k (sum ⊕ r) gw ≡ false → sum_on term left (suc k) (sum ⊕ r) (sum ⊕ r) ≡ sum_on term (suc left) k sum gw
  unfolding sum_on
  goes_on h = rw is (sym (rw (rw is at h, sum_on)))

  -- where the terms from this one on give the whole
  module _ (n : ℕ) (whole : Partial) (hn : n ≡ suc left) (left_is : sum_on term n k sum gw ≡ whole) where
    pub sum_stop : true ≡ ends k (sum ⊕ r) gw → record { sum = sum ⊕ r; sw = gw } ≡ whole
    sum_stop h = stops_at (sym h) ∙ rw hn at left_is

    pub sum_on_lem : false ≡ ends k (sum ⊕ r) gw → sum_on term left (k + 1) (sum ⊕ r) (sum ⊕ r) ≡ whole
    sum_on_lem h = rw (add-one k) (goes_on (sym h) ∙ rw hn at left_is)

-- ---- the powers of x: the odd one, from that of the k-th term
module _ (x p : Float) (k : ℕ) (from : 1 ≤ k) (is : p ≡ power x (2 * k - 2)) where
  pub odd_power : p ⊗ x ≡ power x (2 * k - 1)
  unfolding power
  odd_power = let h : 2 * k - 1 ≡ suc (2 * k - 2) = omega arith in rw (h, is)

-- from that of 2 j that of the next even number
pub next_power : (x p : Float) (j : ℕ) → p ≡ power x (2 * j) → p ⊗ x ⊗ x ≡ power x (2 * (j + 1))
unfolding power
next_power x p j is = let h : 2 * (j + 1) ≡ suc (suc (2 * j)) = omega arith in rw (h, is)

-- ---- the pair from its parts; w is 1 + x²
module _ (bk : List Float) (m n : ℕ) (c x : Float) where
  abbrev w : Float
  w = #1 ⊕ x ⊗ x

  pub gmn_is : (nm : ℕ) (a : Float) (f : Partial) (p : Float) (d : Partial) → nm ≡ terms_of (n - m) c → a ≡ to_half w m → f ≡ value_sum bk x nm → p ≡ power x (1 - (n - m) % 2)
      → d ≡ slope_sum bk ((n - m) % 2) x nm f.sw
      → record { value = #1 ⊘ a ⊗ f.sum ⊗ p; derivative = (#0 ⊖ dbl m) ⊗ x ⊘ w ⊗ (#1 ⊘ a ⊗ f.sum ⊗ p) ⊕ #1 ⊘ a ⊗ d.sum } ≡ gmn bk m n c x
  unfolding gmn
  gmn_is nm a f p d hn ha hf hp hd = rw (hd, hp, hf, ha, hn)

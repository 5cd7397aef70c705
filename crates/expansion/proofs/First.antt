-- The first power coefficients are those of the whole: the places are set in order. Assumes nothing.
use Prim.Native.Nat.{ℕ, zero, suc, ◌-◌, ◌%◌, ◌<◌, ◌≤◌, min}
use mathlib.Core.Path.{◌≡◌, sym, ap, ◌∙◌}
use mathlib.Core.Logic.{⊎_elim}
use mathlib.Core.List.{List}
use native.Mathlib.Omega.{arith}
use native.Mathlib.Decide.{dec_le}
use native.Mathlib.Nat.{add-zero, eq-or-lt_of_le}
use lib.Ieee.{Float, nan, neg}
use lib.Seq.{get_or-set_other}
use Rattle.arith.specs.Double.{at, #0}
use Rattle.arith.specs.Powers.{half_to}
use Rattle.expansion.specs.declared.sckb.Carried.{Carried}
use Rattle.expansion.specs.Sums.{blank}
use Rattle.expansion.specs.Terms.{power_terms_of}
use Rattle.expansion.specs.Sckb.{regulator, factorial, filled, sckb}
use Rattle.expansion.specs.Inside.Carried.{StandsFor}

-- a place before the k-th keeps what it holds
filled_before : (df : List Float) (m ip nm k n i : ℕ) → i < k → k ≤ n → at (filled df m ip nm k).ck i ≡ at (filled df m ip nm n).ck i
unfolding filled
filled_before df m ip nm k zero i h l = absurd (omega arith)
filled_before df m ip nm k (suc n) i h l =
    ⊎_elim (λ (e : k ≡ suc n). rw e)
    (λ (q : k < suc n). filled_before df m ip nm k n i h (omega arith) ∙ sym (get_or-set_other (filled df m ip nm n).ck n i _ nan (λ (e : i ≡ n). omega arith)))
    (eq-or-lt_of_le {n = k} {m = suc n} l)

module _ (df : List Float) (m n : ℕ) (c : Float) where
  abbrev all : ℕ
  all = power_terms_of (n - m) c

  -- before the first
  pub stands_first : (s : Carried) (ck : List Float) → s.k ≡ 0 → s.fac ≡ neg (half_to m) → s.sw ≡ #0 → s.r1 ≡ factorial (regulator m all) m → ck ≡ blank → StandsFor df m n c s ck
  unfolding filled
  stands_first s ck hk hf hs hr hc = (rw hk (omega arith), rw (hk, hf), rw (hk, hs), rw (hk, hc), rw (hk, add-zero m) hr)

  -- where all are in place, the list is the whole
  pub stands_last : (s : Carried) (ck : List Float) → StandsFor df m n c s ck → all ≤ s.k → ck ≡ sckb df m n c
  unfolding sckb
  stands_last s ck h l = let e : s.k ≡ all = omega (arith, h.0) in h.3 ∙ rw e

  -- the first `count` places are those of the whole
  pub stands_agrees : (s : Carried) (ck : List Float) (count : ℕ) → StandsFor df m n c s ck → min count all ≤ s.k → (i : ℕ) → i < count → at ck i ≡ at (sckb df m n c) i
  unfolding sckb
  stands_agrees s ck count h l i g = go (dec_le count all)
    where
      go : Dec (count ≤ all) → at ck i ≡ at (sckb df m n c) i
      go (yes a) = ap (λ (xs : List Float). at xs i) h.3 ∙ filled_before df m ((n - m) % 2) all s.k all i (omega (arith, l)) h.0
      go (no a) = ap (λ (xs : List Float). at xs i) (stands_last s ck h (omega (arith, l)))

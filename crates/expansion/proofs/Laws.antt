-- How the definitions of `sdmn` and `sckb` unfold at one turn of a loop, in the form in which the proofs of the code meet them. Assumes nothing.
use Prim.Native.Nat.{ℕ, zero, suc, ◌+◌, ◌-◌, ◌<◌}
use mathlib.Core.Path.{◌≡◌, refl, sym, ap}
use mathlib.Core.Logic.{⊎_elim}
use mathlib.Core.Bool.{Bool, true, false, cond}
use mathlib.Core.List.{List}
use native.Mathlib.Omega.{arith}
use native.Mathlib.Numerals.{add-one}
use native.Mathlib.Nat.{sub-zero, eq-or-lt_of_le}
use lib.Ieee.{Float, neg, lt, le, add, div, of_int, of_bits}
use lib.ListN.{set}
use Rattle.arith.specs.Double.{◌⊕◌, ◌⊗◌, ◌⊘◌, dbl, at, #1e-10}
use Rattle.arith.specs.Truncation.{whole_part}
use Rattle.arith.proofs.Flags.{not_taken}
use Rattle.arith.proofs.Laws.{whole_below}
use Rattle.expansion.specs.declared.sckb.Partial.{Partial}
use Rattle.expansion.specs.Sums.{settled, blank}
use Rattle.expansion.specs.Terms.{h_of, clamped, #175}
use Rattle.expansion.specs.Products.{rising}
use Rattle.expansion.specs.Sdmn.{Recurrence, below, above, exceeds, reduced, reduced_places, stored_below, descend, descended, downward, climbed, ascended, upward, sum_past, factor_at, norm_of, normalised, scaled, expanded}
use Rattle.expansion.specs.declared.sckb.Carried.{Carried}
use Rattle.expansion.specs.Sckb.{terms, sum_of, value_of, filled, regulator}
use Rattle.expansion.specs.Inside.Carried.{Stands}
use Rattle.expansion.specs.Sckb as Sckb

-- ---- how far the sums run

-- what is below 175 has a whole part below 175
pub whole_few : (x : Float) → lt x #175 ≡ true → whole_part x < 175
unfolding of_bits
whole_few x h = whole_below x #175 175 (refl, refl) (omega arith) h

-- for each offset below n, H with a c of 1e-10 is below 175
tiny_sums : ℕ → Bool
tiny_sums zero = true
tiny_sums (suc k) = cond (lt (h_of k #1e-10) #175) (tiny_sums k) false

tiny_sums_200 : tiny_sums 200 ≡ true
unfolding tiny_sums lt add div of_int of_bits
tiny_sums_200 = refl

both : (a b : Bool) → cond a b false ≡ true → (a ≡ true) × (b ≡ true)
both true b h = (refl, h)
both false b h = not_taken h

tiny_sum : (n k : ℕ) → tiny_sums n ≡ true → k < n → lt (h_of k #1e-10) #175 ≡ true
unfolding tiny_sums
tiny_sum zero k h l = absurd (omega arith)
tiny_sum (suc n) k h l =
    let p = both (lt (h_of n #1e-10) #175) (tiny_sums n) h in
    ⊎_elim (λ q. rw q p.0) (λ q. tiny_sum n k p.1 q) (eq-or-lt_of_le {n = k} {m = n} (omega arith))

-- H stays below 175 with the c that `sckb` takes
pub clamped_below : (offset : ℕ) (c : Float) → offset < 200 → lt (h_of offset c) #175 ≡ true → lt (h_of offset (clamped c)) #175 ≡ true
unfolding clamped
clamped_below offset c o q = go (le c #1e-10)
  where
    go : (t : Bool) → lt (h_of offset (cond t #1e-10 c)) #175 ≡ true
    go true = tiny_sum 200 offset tiny_sums_200 o
    go false = q

-- ---- the downward pass at place k
module _ (r : Recurrence) (nm : ℕ) (f1 f0 f : Float) (df : List Float) where
  pub descend_stop : (k : ℕ) → 0 < k → f ≡ below r k f1 f0 → exceeds f (at df k) ≡ false → downward k (at df k) df ≡ descend r nm k f1 f0 df
  unfolding descend
  descend_stop zero z is h = absurd (omega arith)
  descend_stop (suc k) z is h = sym (rw (rw is at h, descend))

  pub descend_on : (k : ℕ) (a b : Float) (ys : List Float) → 0 < k → f ≡ below r k f1 f0 → exceeds f (at df k) ≡ true → a ≡ reduced f f0 → b ≡ reduced f f
      → ys ≡ reduced_places f (nm - (k - 1)) (k - 1) (set df (k - 1) f) → descend r nm (k - 1) a b ys ≡ descend r nm k f1 f0 df
  unfolding descend
  descend_on zero a b ys z is h ha hb hy = absurd (omega arith)
  descend_on (suc k) a b ys z is h ha hb hy = let one : suc k - 1 ≡ k = omega arith in rw (ha, hb, hy, one, is) (sym (rw (rw is at h, descend)))

-- ---- a turn of the upward pass
pub climb_on : (r : Recurrence) (kb left i : ℕ) (f1 f2 f a b : Float) (df xs ys : List Float) → f ≡ above r i f1 f2 → xs ≡ stored_below kb (i + 1) f df
    → ys ≡ reduced_places f (i + 2 - 0) 0 xs → a ≡ reduced f f2 → b ≡ reduced f f → climbed r kb left (suc i) a b ys ≡ climbed r kb (suc left) i f1 f2 df
unfolding climbed
climb_on r kb left i f1 f2 f a b df xs ys hf hx hy ha hb = rw (ha, hb, hy, hx, hf, sub-zero (i + 2))

-- ---- a term of the sum past the joint
module _ (df : List Float) (m ip left k : ℕ) (r1 r su2 sw : Float) (hr : r ≡ factor_at m ip k r1) where
  pub past_stop : settled (su2 ⊕ r ⊗ at df (k - 1)) sw ≡ true → su2 ⊕ r ⊗ at df (k - 1) ≡ sum_past df m ip (suc left) k r1 su2 sw
  unfolding sum_past
  past_stop h = rw hr (sym (rw (rw hr at h, sum_past)))

  pub past_on : settled (su2 ⊕ r ⊗ at df (k - 1)) sw ≡ false → sum_past df m ip left (suc k) r (su2 ⊕ r ⊗ at df (k - 1)) (su2 ⊕ r ⊗ at df (k - 1)) ≡ sum_past df m ip (suc left) k r1 su2 sw
  unfolding sum_past
  past_on h = rw hr (sym (rw (rw hr at h, sum_past)))

-- ---- both passes, normalised
pub expanded_is : (r : Recurrence) (n nm kb : ℕ) (fl fs s0 : Float) (b d u v w : List Float) → b ≡ blank → downward kb fl d ≡ descended r nm b → upward fs u ≡ ascended r kb d
    → s0 ≡ norm_of r n nm (downward kb fl u) (upward fs u) → v ≡ scaled (fl ⊘ fs ⊗ s0) (kb - 0) 0 u → w ≡ scaled s0 (nm - kb) kb v → w ≡ expanded r n nm
unfolding expanded norm_of normalised
expanded_is r n nm kb fl fs s0 b d u v w hb hd hu hs hv hw = let e = sym (rw hb at hd) in rw (e, ← hu, ← hs, hw, hv, sub-zero kb)

-- ---- a term of a power coefficient's sum
module _ (df : List Float) (m ip k left i : ℕ) (r r' sum sw : Float) (hr : r' ≡ Sckb.next_factor m ip k r i) where
  pub terms_stop : settled (sum ⊕ r' ⊗ at df i) sw ≡ true → record { sum = sum ⊕ r' ⊗ at df i; sw = sw } ≡ terms df m ip k (suc left) i r sum sw
  unfolding terms
  terms_stop h = rw hr (sym (rw (rw hr at h, terms)))

  pub terms_on : settled (sum ⊕ r' ⊗ at df i) sw ≡ false → terms df m ip k left (suc i) r' (sum ⊕ r' ⊗ at df i) (sum ⊕ r' ⊗ at df i) ≡ terms df m ip k (suc left) i r sum sw
  unfolding terms
  terms_on h = rw hr (sym (rw (rw hr at h, terms)))

-- ---- a power coefficient is put into its place
pub put_on : (df : List Float) (m ip nm : ℕ) (reg : Float) (a b : Carried) (p : Partial) (ck ck' : List Float) → reg ≡ regulator m nm → Stands df m ip nm a ck → a.k < nm
    → p ≡ sum_of df m ip nm reg a.k a.sw → ck' ≡ set ck a.k (value_of reg m a.k (neg a.fac) p.sum) → b.k ≡ a.k + 1 → b.fac ≡ neg a.fac → b.sw ≡ p.sw
    → b.r1 ≡ Sckb.factorial reg (m + b.k) → Stands df m ip nm b ck'
unfolding filled
put_on df m ip nm reg a b p ck ck' hg s l hp hck hk hf hs hr =
    (rw hk (omega arith), rw (hk, add-one a.k, hf, s.1), rw (hk, add-one a.k, hs, hp, hg, s.2), rw (hk, add-one a.k, hck, hp, hg, s.1, s.2, s.3), rw (← hg) hr)

-- ---- reg × (n + 1)! from reg × n!
pub factorial_on : (reg : Float) (n : ℕ) → 0 < n → Sckb.factorial reg n ⊗ dbl (n + 1) ≡ Sckb.factorial reg (n + 1)
unfolding Sckb.factorial rising
factorial_on reg n h =
    let e : n + 1 - 1 ≡ suc (n - 1) = omega arith in
    let t : n + 1 ≡ 2 + (n - 1) = omega arith in
    rw e (ap (λ (x : ℕ). rising reg 2 (n - 1) ⊗ dbl x) t)

-- How the definitions of `rmn1`, `rmn2l` and their sums unfold, in the form in which the proofs of the code meet them. Assumes nothing.
use Prim.Native.Nat.{ℕ, suc, ◌+◌, ◌-◌, ◌*◌, ◌/◌, ◌%◌, ◌≤◌, ◌<◌}
use mathlib.Core.Path.{◌≡◌, refl, sym, ◌∙◌}
use mathlib.Core.Bool.{Bool, true, false, cond, ◌&&◌, ◌||◌}
use mathlib.Core.List.{List}
use native.Mathlib.Omega.{arith}
use lib.Dec.{eqb, leb}
use lib.IntN.{negsuc}
use lib.Ieee.Casts.{to_signed_in}
use mir.Syntax.{w32}
use mir.Val.{SFits}
use lib.Ieee.{Float, neg, lt, eq}
use Rattle.arith.specs.Double.{◌⊕◌, ◌⊖◌, ◌⊗◌, at, bits, #0}
use Rattle.arith.specs.Choice.{abs}
use Rattle.arith.specs.Truncation.{truncate}
use Rattle.bessel.specs.declared.sphj.Orders.{Orders}
use Rattle.bessel.specs.Sphj.{orders, sj, dj}
use Rattle.bessel.specs.Sphy.{sy, dy, highest}
use Rattle.expansion.specs.Sums.{settled}
use Rattle.expansion.specs.Sckb.{sckb}
use Rattle.joining.specs.declared.sums.Test.TheVariants.{Product}
use Rattle.joining.specs.Sums.{stops}
use Rattle.std.specs.Prelude.{Some, None}
use Rattle.expansion.specs.declared.values.Pair.{Pair}
use Rattle.expansion.specs.Terms.{terms_of, Usable}
use Rattle.expansion.proofs.Halves.{whole_and_part, whole_at_most}
use Rattle.radial_sums.specs.Limits.{first_terms}
use Rattle.radial_sums.specs.declared.bessel_sums.Series.{Series}
use Rattle.radial_sums.specs.declared.common.Common.{Common}
use Rattle.radial_sums.specs.declared.rmn2l.Reached.{Reached}
use Rattle.radial_sums.specs.Common.{common}
use Rattle.radial_sums.specs.BesselSums.{lg, factor, bessel_on, bessel_sum}
use Rattle.radial_sums.specs.Rmn1.{powers_on, on_disc, joined, off_disc, rmn1}
use Rattle.radial_sums.specs.Rmn2l.{reached, large_on, large_sum, int_x86, lost, rmn2l}

-- ---- a term of the sum of the power coefficients
module _ (ck : List Float) (left j : ℕ) (sum sw : Float) where
  pub powers_stop : settled (sum ⊕ at ck j) sw ≡ true → sum ⊕ at ck j ≡ powers_on ck (suc left) j sum sw
  unfolding powers_on
  powers_stop h = sym (rw (h, powers_on))

  pub powers_on_lem : settled (sum ⊕ at ck j) sw ≡ false → powers_on ck left (suc j) (sum ⊕ at ck j) (sum ⊕ at ck j) ≡ powers_on ck (suc left) j sum sw
  unfolding powers_on
  powers_on_lem h = sym (rw (h, powers_on))

-- ---- a term of a sum with Bessel functions
module _ (df bs : List Float) (m ip half left j : ℕ) (r r' g sum sw : Float) (hr : r' ≡ factor m ip j r) (hg : g ≡ lg half j) where
  abbrev next : Float
  next = sum ⊕ g ⊗ r' ⊗ at df j ⊗ at bs (m + 2 * j + ip)

  pub bessel_stop : (b : Bool) → b ≡ stops Product half (j + 1) next sw → b ≡ true → next ≡ bessel_on df bs m ip half (suc left) j r sum sw
  unfolding bessel_on
  bessel_stop b hb h = rw (hr, hg) (sym (rw (rw (hr, hg) at (sym hb ∙ h), bessel_on)))

  pub bessel_on_lem : (b : Bool) → b ≡ stops Product half (j + 1) next sw → b ≡ false → bessel_on df bs m ip half left (suc j) r' next next ≡ bessel_on df bs m ip half (suc left) j r sum sw
  unfolding bessel_on
  bessel_on_lem b hb h = rw (hr, hg) (sym (rw (rw (hr, hg) at (sym hb ∙ h), bessel_on)))

-- the same of `rmn2l`, with the change that the term makes, e
module _ (df bs : List Float) (m ip half left j : ℕ) (r r' g sum sw eps e : Float) (np : ℕ) (hr : r' ≡ factor m ip j r) (hg : g ≡ lg half j) where
  abbrev next_large : Float
  next_large = sum ⊕ g ⊗ r' ⊗ (at df j ⊗ at bs (m + 2 * j + ip))

  pub large_stop : e ≡ abs (next_large ⊖ sw) → (b : Bool) → b ≡ stops Product half (j + 1) next_large sw → b ≡ true → reached next_large sw e (m + 2 * j + ip) ≡ large_on df bs m ip half (suc left) j r sum sw eps np
  unfolding large_on
  large_stop he b hb h = rw (he, hr, hg) (sym (rw (rw (hr, hg) at (sym hb ∙ h), large_on)))

  pub large_on_lem : e ≡ abs (next_large ⊖ sw) → (b : Bool) → b ≡ stops Product half (j + 1) next_large sw → b ≡ false → large_on df bs m ip half left (suc j) r' next_large next_large e (m + 2 * j + ip) ≡ large_on df bs m ip half (suc left) j r sum sw eps np
  unfolding large_on
  large_on_lem he b hb h = rw (he, hr, hg) (sym (rw (rw (hr, hg) at (sym hb ∙ h), large_on)))

-- two sums are the two that are meant
abbrev sums : Float → Float → Pair
sums v d = record { value = v; derivative = d }

pub sums_are : (v v' d d' : Float) → v ≡ v' → d ≡ d' → sums v d ≡ sums v' d'
sums_are v v' d d' h k = rw (h, k)

-- ---- how many terms the sums have
pub first_terms_fit : (m n : ℕ) (c : Float) → Usable m n c → (25 ≤ first_terms (n - m) c) × (first_terms (n - m) c < 200) × (first_terms (n - m) c ≤ terms_of (n - m) c)
unfolding first_terms terms_of
first_terms_fit m n c u =
    let few = whole_and_part (n - m) c u.2 u.3 u.4 in
    let most = whole_at_most (n - m) c u.2 u.3 u.4 in
    (omega arith, omega (arith, few), omega (arith, most))

-- the orders that are asked for have places
module _ (df : List Float) (m n : ℕ) (c : Float) (s : Common) (u : Usable m n c) (hs : s ≡ common df m n c) (few : 2 * terms_of (n - m) c + m ≤ 251) where
  pub common_fits : (25 ≤ s.nm) × (s.nm < 200) × (2 * s.nm + m ≤ 251)
  unfolding common
  common_fits =
      let f = first_terms_fit m n c u in
      let h : s.nm ≡ first_terms (n - m) c = rw hs in
      rw h (f.0, f.1, omega (arith, f.2, few))

-- t is what the terms of the sums depend on
abbrev Meant : ℕ → ℕ → Common → Series → Type 0
Meant m n s t = (t.m ≡ m) × (t.ip ≡ (n - m) % 2) × (t.half ≡ (n - m) / 2) × (t.nm ≡ s.nm) × (t.r0 ≡ s.r0)

-- ---- the first kind off the disc; nm2 is the highest order of the Bessel functions
module _ (df : List Float) (m n : ℕ) (c x : Float) (s : Common) (o : Orders) (nm2 : ℕ) (hs : s ≡ common df m n c) (h2 : nm2 ≡ 2 * s.nm + m) (ho : o ≡ orders (c ⊗ x) nm2) where
  test : (b : Bool) → eqb o.from 0 ≡ b → eqb (orders (c ⊗ x) (2 * (common df m n c).nm + m)).from 0 ≡ b
  test b h = rw (← hs, ← h2, ← ho) h

  pub no_order : eqb o.from 0 ≡ true → None ≡ off_disc df m n c x
  unfolding off_disc
  no_order h = sym (rw (test true h, off_disc))

  pub with_order : eqb o.from 0 ≡ false → (t : Series) (j d : List Float) (b p : Pair) → Meant m n s t → j ≡ sj (c ⊗ x) nm2 → d ≡ dj (c ⊗ x) nm2
      → b ≡ record { value = bessel_sum df j t.m t.ip t.half t.nm t.r0; derivative = bessel_sum df d t.m t.ip t.half t.nm t.r0 }
      → p ≡ joined m c x s.suc b.value b.derivative → Some p ≡ off_disc df m n c x
  unfolding off_disc
  with_order h t j d b p ht hj hd hb hp = rw (hp, hb, hd, hj, h2, ht.0, ht.1, ht.2, ht.3, ht.4, hs) (sym (rw (test false h, off_disc)))

-- ---- the first kind
module _ (df : List Float) (m n : ℕ) (c x : Float) where
  pub at_zero : eq x #0 ≡ true → Some (on_disc df (sckb df m n c) m n c) ≡ rmn1 df m n c x
  unfolding rmn1
  at_zero h = sym (rw (h, rmn1))

  pub off_zero : eq x #0 ≡ false → off_disc df m n c x ≡ rmn1 df m n c x
  unfolding rmn1
  off_zero h = sym (rw (h, rmn1))

-- ---- the second kind off the disc

-- `int_x86` has 32 bits
pub int_fits : (x : Float) → SFits w32 (int_x86 x)
unfolding int_x86
int_fits x = go (lt (neg (bits 0x41e0_0000_0020_0000)) x && lt x (bits 0x41e0_0000_0000_0000))
  where
    go : (t : Bool) → SFits w32 (cond t (truncate x) (negsuc 2147483647))
    go true = record { sfits = to_signed_in 31 x }
    go false = record { sfits = omega arith }

-- s is what is common to both kinds, y and d are the Bessel functions and their derivatives, top is their highest order that counts, f and g are the sums
module _ (df : List Float) (m n : ℕ) (c x : Float) (s : Common) (t : Series) (nm2 : ℕ) (y d : List Float) (top : ℕ) (f : Reached) (hs : s ≡ common df m n c) (ht : Meant m n s t) (h2 : nm2 ≡ 2 * s.nm + m) (hh : top ≡ highest (c ⊗ x) nm2) (hy : y ≡ sy (c ⊗ x) nm2) (hd : d ≡ dy (c ⊗ x) nm2) (hf : f ≡ large_sum df y t.m t.ip t.half t.nm t.r0 s.sw) where
  abbrev slopes : Reached
  slopes = large_sum df d t.m t.ip t.half t.nm t.r0 f.sw

  whole : (g : Reached) → g ≡ slopes → cond (leb top f.np || lost f.sum f.eps || lost g.sum g.eps) None (Some (joined m c x s.suc f.sum g.sum)) ≡ rmn2l df m n c x
  unfolding rmn2l
  whole g hg = rw (hg, hf, hy, hd, hh, h2, ht.0, ht.1, ht.2, ht.3, ht.4, hs)

  pub too_few_orders : leb top f.np ≡ true → None ≡ rmn2l df m n c x
  too_few_orders h = rw h at (whole slopes refl)

  pub value_lost : leb top f.np ≡ false → lost f.sum f.eps ≡ true → None ≡ rmn2l df m n c x
  value_lost h k = rw (h, k) at (whole slopes refl)

  pub slope_lost : leb top f.np ≡ false → lost f.sum f.eps ≡ false → (g : Reached) → g ≡ slopes → lost g.sum g.eps ≡ true → None ≡ rmn2l df m n c x
  slope_lost h k g hg l = rw (h, k, l) at (whole g hg)

  pub both_kept : leb top f.np ≡ false → lost f.sum f.eps ≡ false → (g : Reached) → g ≡ slopes → lost g.sum g.eps ≡ false → (p : Pair) → p ≡ joined m c x s.suc f.sum g.sum → Some p ≡ rmn2l df m n c x
  both_kept h k g hg l p hp = rw hp (rw (h, k, l) at (whole g hg))

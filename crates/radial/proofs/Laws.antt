-- How the definitions of `rmn2so` and `rswfo` unfold, in the form in which the proofs of the code meet them. Assumes nothing.
use Prim.Native.Nat.{ℕ, ◌-◌, ◌%◌}
use mathlib.Core.Path.{◌≡◌, sym, ap, ◌∙◌}
use mathlib.Core.Bool.{true, false}
use mathlib.Core.List.{List}
use lib.Ieee.{Float, le, lt, eq, of_bits}
use Rattle.arith.specs.Double.{◌⊘◌, at, #0, #1e-280, #1e-8, #1e300}
use Rattle.arith.specs.Choice.{abs}
use Rattle.arith.proofs.Zeros.{zero_not_above}
use Rattle.std.specs.Prelude.{Option, Some, None}
use Rattle.expansion.specs.Sckb.{sckb}
use Rattle.expansion.specs.declared.values.Pair.{Pair}
use Rattle.joining.specs.Kmn.{kmn}
use Rattle.joining.specs.declared.qstar.Factors.{Factors}
use Rattle.joining.specs.Qstar.{qstar}
use Rattle.joining.specs.Cbk.{cbk}
use Rattle.radial_sums.specs.Limits.{second_terms}
use Rattle.radial_sums.specs.Rmn1.{powers_sum, on_disc, off_disc, rmn1}
use Rattle.radial_sums.specs.Rmn2l.{rmn2l}
use Rattle.radial_sums.proofs.Laws.{at_zero, off_zero}
use Rattle.radial.specs.declared.rswfo.Radial.{Radial}
use Rattle.radial.specs.Gmn.{gmn}
use Rattle.radial.specs.Rmn2so.{combined, turned, rmn2so}
use Rattle.radial.specs.Rswfo.{kept_or, by_so, second_kind, with_second}

-- ---- the second kind from the disc's coefficients
module _ (df ck : List Float) (m n : ℕ) (c cv x : Float) (r1 : Pair) (a : Float) (e : a ≡ abs (at df 0)) where
  pub second_large : le a #1e-280 ≡ true → record { value = #1e300; derivative = #1e300 } ≡ rmn2so df ck m n c cv x r1
  unfolding rmn2so
  second_large h = sym (rw (rw e at h, rmn2so))

  module _ (h : le a #1e-280 ≡ false) (ck1 : Float) (q : Factors) (bk : List Float) (hk : ck1 ≡ kmn df m n c) (hq : q ≡ qstar ck m n c ck1) (hb : bk ≡ cbk ck m n c cv q.qt) where
    pub second_on_disc : eq x #0 ≡ true → (nm : ℕ) (s : Float) (r : Pair) → nm ≡ second_terms (n - m) c → s ≡ powers_sum ck nm → r ≡ combined ((n - m) % 2) (s ⊘ ck1) q.qs (at bk 0)
        → r ≡ rmn2so df ck m n c cv x r1
    unfolding rmn2so
    second_on_disc o nm s r hn hs hr = hr ∙ rw (hs, hn, hb, hq, hk) (sym (rw (rw e at h, o, rmn2so)))

    pub second_off_disc : eq x #0 ≡ false → (g r : Pair) → g ≡ gmn bk m n c x → r ≡ turned x q.qs r1 g → r ≡ rmn2so df ck m n c cv x r1
    unfolding rmn2so
    second_off_disc o g r hg hr = hr ∙ rw (hg, hb, hq, hk) (sym (rw (rw e at h, o, rmn2so)))

-- ---- the choice between `rmn2l` and it
module _ (df : List Float) (m n : ℕ) (c cv x : Float) (r1 : Pair) where
  pub kept : lt #1e-8 x ≡ true → (r : Pair) → rmn2l df m n c x ≡ Some r → r ≡ second_kind df m n c cv x r1
  unfolding second_kind kept_or
  kept h r e = sym (rw (h, e, second_kind))

  pub lost : lt #1e-8 x ≡ true → rmn2l df m n c x ≡ None → by_so df m n c cv x r1 ≡ second_kind df m n c cv x r1
  unfolding second_kind kept_or
  lost h e = sym (rw (h, e, second_kind))

  pub not_tried : lt #1e-8 x ≡ false → by_so df m n c cv x r1 ≡ second_kind df m n c cv x r1
  unfolding second_kind
  not_tried h = sym (rw (h, second_kind))

-- a zero is not above 1e-8
zero_near : (x : Float) → eq x #0 ≡ true → lt #1e-8 x ≡ false
unfolding of_bits
zero_near x o = zero_not_above _ _ x o

-- ---- both kinds
module _ (df : List Float) (m n : ℕ) (c cv x : Float) where
  pub both_on_disc : eq x #0 ≡ true → (b : Radial) → b.first ≡ on_disc df (sckb df m n c) m n c → b.second ≡ by_so df m n c cv x b.first → Some b ≡ with_second df m n c cv x (rmn1 df m n c x)
  unfolding with_second
  both_on_disc o b hf hs = both b.first b.second hf (hs ∙ not_tried df m n c cv x b.first (zero_near x o)) ∙ ap (λ (f : Option Pair). with_second df m n c cv x f) (at_zero df m n c x o)
    where
      both : (f s : Pair) → f ≡ on_disc df (sckb df m n c) m n c → s ≡ second_kind df m n c cv x f → Some (record { first = f; second = s }) ≡ with_second df m n c cv x (Some (on_disc df (sckb df m n c) m n c))
      both f s hf hs = rw (hs, hf)

  pub both_off_disc : eq x #0 ≡ false → with_second df m n c cv x (off_disc df m n c x) ≡ with_second df m n c cv x (rmn1 df m n c x)
  both_off_disc o = ap (λ (f : Option Pair). with_second df m n c cv x f) (off_zero df m n c x o)

-- off the disc, the first kind being found or not
module _ (df : List Float) (m n : ℕ) (c cv x : Float) (f : Option Pair) where
  pub found_both : (r1 r2 : Pair) → f ≡ Some r1 → r2 ≡ second_kind df m n c cv x r1 → Some (record { first = r1; second = r2 }) ≡ with_second df m n c cv x f
  unfolding with_second
  found_both r1 r2 h e = rw (h, e)

  pub found_neither : f ≡ None → None ≡ with_second df m n c cv x f
  unfolding with_second
  found_neither h = rw h

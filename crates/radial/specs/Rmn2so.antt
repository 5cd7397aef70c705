-- The second radial kind from the disc's coefficients (`rmn2so`), with the names of the source: at argument zero, and off the disc where `rmn2l` does not serve. Definitions only.
use Rattle.std.specs.Prelude.{ℕ, ◌-◌, ◌%◌, true, false, cond, List, eqb, Float}
use Rattle.std.specs.Float.Ieee.{neg, le, eq}
use Rattle.arith.specs.Double.{◌⊕◌, ◌⊖◌, ◌⊗◌, ◌⊘◌, at, #0, #1, #π/2, #1e-280, #1e300}
use Rattle.arith.specs.Choice.{abs}
use Rattle.arctangents.specs.Functions.{arctangent}
use Rattle.joining.specs.Kmn.{kmn}
use Rattle.joining.specs.Qstar.{qstar}
use Rattle.joining.specs.Cbk.{cbk}
use Rattle.expansion.specs.declared.values.Pair.{Pair}
use Rattle.radial_sums.specs.Limits.{second_terms}
use Rattle.radial_sums.specs.Rmn1.{powers_sum}
use Rattle.radial.specs.Gmn.{gmn}

-- at x = 0, from the first kind r1 there, qs and the first coefficient of the disc
unfoldable pub combined : ℕ → Float → Float → Float → Pair
combined ip r1 qs bk0 =
    record {
      value = cond (eqb ip 0) (neg #π/2 ⊗ qs ⊗ r1) bk0;
      derivative = cond (eqb ip 0) (qs ⊗ r1 ⊕ bk0) (neg #π/2 ⊗ qs ⊗ r1);
    }

-- at an x other than zero, from the first kind r1, qs and g
unfoldable pub turned : Float → Float → Pair → Pair → Pair
turned x qs r1 g =
    let h0 = arctangent x ⊖ #π/2 in
    record {
      value = qs ⊗ r1.value ⊗ h0 ⊕ g.value;
      derivative = qs ⊗ (r1.derivative ⊗ h0 ⊕ r1.value ⊘ (#1 ⊕ x ⊗ x)) ⊕ g.derivative;
    }

-- 1e300 twice where the first coefficient is at most 1e-280 in size. r1 is the first kind of `rmn1` at x; at zero the source forms its own
unfoldable pub rmn2so : List Float → List Float → ℕ → ℕ → Float → Float → Float → Pair → Pair
rmn2so df ck m n c cv x r1 =
    let ck1 = kmn df m n c in
    let q = qstar ck m n c ck1 in
    let bk = cbk ck m n c cv q.qt in
    let on_disc = combined ((n - m) % 2) (powers_sum ck (second_terms (n - m) c) ⊘ ck1) q.qs (at bk 0) in
    let off_disc = turned x q.qs r1 (gmn bk m n c x) in
    elim (le (abs (at df 0)) #1e-280) [ true ↦ record { value = #1e300; derivative = #1e300 } | false ↦ elim (eq x #0) [ true ↦ on_disc | false ↦ off_disc ] ]

-- `small::placed` meets its contract. Assumes nothing.
use mathlib.Core.Path.{◌≡◌, sym, ap, subst, ◌∙◌}
use mathlib.Core.Bool.{false}
use Prim.Native.Nat.{ℕ, suc, ◌+◌, ◌*◌, ◌^◌, ◌%◌, ◌≤◌}
use native.Mathlib.Nat.{one-mul, mod-eq_of_lt, lt_of_le_of_lt}
use native.Mathlib.Omega.{arith}
use lib.Dec.{leb→le}
use lib.Pow.{pow_mono}
use lib.IntN.{pos}
use lib.Ieee.{binary64, of_int}
use lib.Ieee.Exact.{HasValue}
use Rattle.sines.specs.Inside.SmallValues as SmallValues
use Rattle.circle.proofs.fixed.Exactly.{whole, over_power}
use Rattle.sines.proofs.small.placed.Goals as goal

few : (k : ℕ) → k ≤ 26 → k + 1 ≤ 27
few k h = omega arith

power_small : (k : ℕ) → k ≤ 26 → 2 ^ (k + 1) ≤ 2 ^ 27
power_small k h = pow_mono {i = k + 1} {j = 27} (few k h)

power_is : (k : ℕ) → k ≤ 26 → 1 * 2 ^ (k + 1) % 2 ^ 64 ≡ 2 ^ (k + 1)
power_is k h = ap (λ (x : ℕ). x % 2 ^ 64) (one-mul (2 ^ (k + 1))) ∙ mod-eq_of_lt (lt_of_le_of_lt (power_small k h) (leb→le (suc (2 ^ 27)) (2 ^ 64) tt))

under : (k : ℕ) → k ≤ 26 → 52 + (k + 1) ≤ 1022
under k h = omega arith

pub returns : goal.returns
unfolding SmallValues.placed
returns c =
    let m = c.args.m in
    let k = c.args.k in
    let h = c.requires.1 in record {
      has_value = over_power c.parts.result (of_int binary64 (pos _)) m 52 (k + 1) c.requires.0 (under k h) c.parts.ensures.has_value
          (subst (λ (p : ℕ). HasValue (of_int binary64 (pos p)) false (2 ^ (k + 1)) 1) (sym (power_is k h)) (whole (2 ^ (k + 1)) (lt_of_le_of_lt (power_small k h) (leb→le (suc (2 ^ 27)) (2 ^ 53) tt))));
      value = rw (c.parts.ensures.value, power_is k h);
    }

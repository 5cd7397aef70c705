-- `small::tested_share` meets its contract. Assumes nothing.
use mathlib.Core.Path.{◌≡◌, subst}
use Prim.Native.Nat.{ℕ, ◌+◌, ◌-◌, ◌*◌, ◌^◌, ◌≤◌, ◌<◌, min}
use native.Mathlib.Nat.{le_trans, add-le-add, le_refl, mul-le-mul_right}
use native.Mathlib.Omega.{arith}
use lib.Ieee.{Float}
use lib.Ieee.Positive.{den}
use Rattle.circle.specs.Within.{less}
use Rattle.circle.specs.Inside.Fixed.{IsDifference, Lies}
use Rattle.sines.specs.Inside.SmallValues as SmallValues
use Rattle.circle.proofs.fixed.Order.{difference_more, lies_of}
use Rattle.sines.proofs.small.tested_share.Goals as goal

-- a wider upper bound
wider : (r : Float) (p s t c : ℕ) → s ≤ t → Lies r p 0 s 0 c → Lies r p 0 t 0 c
wider r p s t c h v = record { number = v.number; from = v.from; upto = le_trans v.upto (add-le-add (mul-le-mul_right (den r) h) (le_refl (less r * c))) }

order : (n u : ℕ) → n ≤ u → n - 1024 + 0 ≤ u + 0
order n u h = omega arith

-- the upper bound is at least n, at most n + 1024, and has 53 binary digits
near : (n u : ℕ) → n < 2 ^ 53 → u ≡ min (n + 1024) (2 ^ 53 - 1) → (n ≤ u) × (u ≤ n + 1024) × (u < 2 ^ 53)
near n u h e = (omega arith, omega arith, omega arith)

pub returns : goal.returns
unfolding SmallValues.tested_share SmallValues.upper
returns c =
    let a = c.args in
    let l = c.placed in
    let e = c.saturating_sub-low in
    let u = c.min-up in
    let h = c.placed-2 in
    let b = near a.n u.result c.requires.0 u.ensures in
    let C = 2 ^ 52 * 2 ^ (a.k + 1) in record {
      lies = wider c.guarded.result (a.n - 1024) u.result (a.n + 1024) C b.1
          (lies_of l.result h.result c.guarded.result (a.n - 1024) 0 u.result 0 C
          (subst (λ (z : ℕ). IsDifference l.result z 0 C) e.ensures (difference_more l.result e.result C l.ensures.has_value))
          (difference_more h.result u.result C h.ensures.has_value) (order a.n u.result b.0) c.guarded.ensures.low_or_within);
      value = rw (c.guarded.ensures.value, h.ensures.value, u.ensures, l.ensures.value, e.ensures);
    }

-- What `further` makes of a cosine and a sine. Assumes nothing.
use mathlib.Core.Path.{◌≡◌, refl, subst}
use Prim.Native.Nat.{ℕ, ◌+◌, ◌*◌, ◌/◌, ◌^◌, ◌≤◌, ◌<◌}
use native.Mathlib.Nat.{le_trans, le_refl}
use native.Mathlib.Omega.{arith}
use lib.Dec.{leb→le}
use lib.Pow.{pow_pos}
use Rattle.circle.specs.Series.{term}
use Rattle.circle.specs.Inside.Fixed.{Apart}
use Rattle.circle.specs.Inside.Signed.{plus, less}
use Rattle.circle.specs.Inside.Circle.{State, IsCircle, error}
use Rattle.arctangents.specs.Inside.Arctangent.{IsFurther}
use Rattle.circle.proofs.Tiny.{step_state}
use Rattle.arctangents.proofs.Sides.{Stated, state_at}
use Rattle.arctangents.proofs.Moved.{rotated}

-- what is cut off is less than a unit
cosine_cut : (p m c s : ℕ) → p + s / 2 ^ 40 ≡ m + c → Apart (p * 2 ^ 63) (m * 2 ^ 63) (c * 2 ^ 63 + 0 * 0 + (s * 0 + 0 * 2 ^ 23)) (c * 0 + 0 * 2 ^ 63 + (s * 2 ^ 23 + 0 * 0)) (2 ^ 63)
cosine_cut p m c s h = go (s / 2 ^ 40) (omega arith) (omega arith) h
  where
    go : (t : ℕ) → t * 2 ^ 40 ≤ s → s < t * 2 ^ 40 + 2 ^ 40 → p + t ≡ m + c → Apart (p * 2 ^ 63) (m * 2 ^ 63) (c * 2 ^ 63 + 0 * 0 + (s * 0 + 0 * 2 ^ 23)) (c * 0 + 0 * 2 ^ 63 + (s * 2 ^ 23 + 0 * 0)) (2 ^ 63)
    go t l u h = record { under = omega (arith, l, u, h); over = omega (arith, l, u, h) }

sine_cut : (p m c s : ℕ) → p ≡ s + c / 2 ^ 40 → m ≡ 0 → Apart (p * 2 ^ 63) (m * 2 ^ 63) (c * 2 ^ 23 + 0 * 0 + (s * 2 ^ 63 + 0 * 0)) (c * 0 + 0 * 2 ^ 23 + (s * 0 + 0 * 2 ^ 63)) (2 ^ 63)
sine_cut p m c s h z = go (c / 2 ^ 40) (omega arith) (omega arith) h z
  where
    go : (t : ℕ) → t * 2 ^ 40 ≤ c → c < t * 2 ^ 40 + 2 ^ 40 → p ≡ s + t → m ≡ 0 → Apart (p * 2 ^ 63) (m * 2 ^ 63) (c * 2 ^ 23 + 0 * 0 + (s * 2 ^ 63 + 0 * 0)) (c * 0 + 0 * 2 ^ 23 + (s * 0 + 0 * 2 ^ 63)) (2 ^ 63)
    go t l u h z = record { under = omega (arith, l, u, h, z); over = omega (arith, l, u, h, z) }

five : error 5 ≡ 4977
unfolding error
five = refl

slack : (c s kc ks : ℕ) → c ≤ 9 * 2 ^ 60 → s ≤ 9 * 2 ^ 60 → kc + ks ≤ 2 ^ 63 + 2 ^ 23
    → 2 ^ 63 + (c * 1024 + 0 * 1024 + 4977 * (kc + 0 + 1024) + (s * 1024 + 0 * 1024 + 4977 * (ks + 0 + 1024))) + 2 ^ 63 ≤ 2 ^ 63 * 8192
slack c s kc ks h k l = omega (arith, h, k, l)

pub further_is : (y c s cn' c' sn' s' : ℕ) → y + 2 ^ 18 ≤ 2 ^ 59 → c ≤ 9 * 2 ^ 60 → s ≤ 9 * 2 ^ 60 → IsCircle y 5 0 c 0 s → IsFurther c s cn' c' sn' s' → Stated (y + 2 ^ 18) cn' c' sn' s'
further_is y c s cn' c' sn' s' h hc hs i f n l =
    rotated y (2 ^ 18) (2 ^ 58) n 4977 1024 c 0 s 0 (2 ^ 63) (2 ^ 23) (pow_pos 58) (le_trans h (leb→le (2 ^ 59) (200 * 2 ^ 58) tt)) l
    (subst (λ (e : ℕ). State (term y (2 ^ 58) n) (term y (2 ^ 58) n 0) n (2 ^ 63) e c 0 s 0) five (state_at y 0 c 0 s (lower y h) i n l))
    (step_state (2 ^ 18) (leb→le (2 ^ 18 * 2 ^ 27) (2 ^ 58) tt) n l)
    (plus cn' c') (less cn' c') (plus sn' s') (less sn' s') (2 ^ 63) 8192
    (cosine_cut (plus cn' c') (less cn' c') c s f.cosine) (sine_cut (plus sn' s') (less sn' s') c s f.sine f.sign)
    (slack c s (2 ^ 63) (2 ^ 23) hc hs (le_refl (2 ^ 63 + 2 ^ 23))) (slack c s (2 ^ 23) (2 ^ 63) hc hs (leb→le (2 ^ 23 + 2 ^ 63) (2 ^ 63 + 2 ^ 23) tt))
  where
    lower : (y : ℕ) → y + 2 ^ 18 ≤ 2 ^ 59 → y ≤ 2 ^ 59
    lower y h = omega arith

-- One doubling: how far the rounded cosine and sine are from the series at twice the argument. Assumes nothing.
-- The code's numbers are in units of 1 / G, the partial sums in units of 1 / W. A number that may be negative is a difference of two.
use mathlib.Core.Path.{◌≡◌, sym, ap, ◌∙◌}
use Prim.Native.Nat.{ℕ, ◌+◌, ◌*◌, ◌≤◌, ◌<◌}
use native.Mathlib.Nat.{le_trans, le_of_eq, mul-add, add-mul, mul_comm, mul_assoc, mul_left_comm, mul-le-mul_left, mul-pos}
use native.Mathlib.Omega.{arith}
use Rattle.circle.specs.Inside.Fixed.{Apart}
use Rattle.circle.proofs.Signed.{apart_trans, apart_add, apart_wider, apart_times, apart_cancel, apart_mul}

one : (w x y : ℕ) → x * w * (y * w) ≡ w * w * (x * y)
one w x y = simp (mul_assoc, mul_comm, mul_left_comm)

two : (w a b a' b' : ℕ) → a * w * (a' * w) + b * w * (b' * w) ≡ w * w * (a * a' + b * b')
two w a b a' b' = rw (one w a a', one w b b') (sym (mul-add (w * w) (a * a') (b * b')))

wrong : (w a b e c d f : ℕ) → a * w * (f * w) + b * w * (f * w) + e * w * (c * w + d * w + f * w) ≡ w * w * (a * f + b * f + e * (c + d + f))
wrong w a b e c d f =
    ap (λ (x : ℕ). x + e * w * (c * w + d * w + f * w)) (two w a b f f)
    ∙ ap (λ (x : ℕ). w * w * (a * f + b * f) + e * w * x) (sym (add-mul (c + d) f w ∙ ap (λ (x : ℕ). x + f * w) (add-mul c d w)))
    ∙ ap (λ (x : ℕ). w * w * (a * f + b * f) + x) (one w e (c + d + f))
    ∙ sym (mul-add (w * w) (a * f + b * f) (e * (c + d + f)))

-- a product of numbers in units
pub product : (W G a b A B e c d C D f : ℕ) → Apart (a * W) (b * W) (A * G) (B * G) (e * W) → Apart (c * W) (d * W) (C * G) (D * G) (f * W)
    → Apart (W * W * (a * c + b * d)) (W * W * (a * d + b * c)) (G * G * (A * C + B * D)) (G * G * (A * D + B * C)) (W * W * (a * f + b * f + e * (c + d + f)))
product W G a b A B e c d C D f h k =
    rw (← two W a b c d, ← two W a b d c, ← two G A B C D, ← two G A B D C, ← wrong W a b e c d f) (apart_mul h k)

-- a sum of products
pub gather : (k l p q m n P Q R S e f : ℕ) → Apart (k * p) (k * m) (l * P) (l * R) (k * e) → Apart (k * q) (k * n) (l * Q) (l * S) (k * f) → Apart (k * (p + q)) (k * (m + n)) (l * (P + Q)) (l * (R + S)) (k * (e + f))
gather k l p q m n P Q R S e f h g = rw (mul-add k p q, mul-add k m n, mul-add l P Q, mul-add l R S, mul-add k e f) (apart_add h g)

-- from a product's units back to the numbers' own
pub finish : (W G p m X Y h Q R τ p' m' g ε' : ℕ) → 0 < W → 0 < G
    → Apart (W * W * p) (W * W * m) (G * G * X) (G * G * Y) (W * W * h)
    → Apart X Y (W * Q) (W * R) (W * τ)
    → Apart (p' * G) (m' * G) p m g
    → τ * G ≤ W → g + h + G ≤ G * ε'
    → Apart (p' * W) (m' * W) (Q * G) (R * G) (ε' * W)
finish W G p m X Y h Q R τ p' m' g ε' w0 g0 prod sand comp small total =
    apart_cancel (W * G) (mul-pos w0 g0)
    (apart_wider (rw (own p', own m', other Q, other R) at (apart_trans (apart_times (W * W) comp) (apart_trans prod (apart_times (G * G) sand)))) bound)
  where
    own : (z : ℕ) → W * W * (z * G) ≡ W * G * (z * W)
    own z = simp (mul_assoc, mul_comm, mul_left_comm)

    other : (z : ℕ) → G * G * (W * z) ≡ W * G * (z * G)
    other z = simp (mul_assoc, mul_comm, mul_left_comm)

    tail : G * G * (W * τ) ≤ W * W * G
    tail = le_trans (le_of_eq (other τ)) (le_trans (mul-le-mul_left (W * G) small) (le_of_eq (mul_assoc W G W ∙ ap (λ (x : ℕ). W * x) (mul_comm G W) ∙ sym (mul_assoc W W G))))

    bound : W * W * g + (W * W * h + G * G * (W * τ)) ≤ W * G * (ε' * W)
    bound =
        le_trans (go (W * W * g) (W * W * h) (G * G * (W * τ)) (W * W * G) tail)
        (le_trans (le_of_eq (sym (mul-add (W * W) (g + h) G ∙ ap (λ (x : ℕ). x + W * W * G) (mul-add (W * W) g h))))
        (le_trans (mul-le-mul_left (W * W) total) (le_of_eq (ap (λ (x : ℕ). W * W * x) (mul_comm G ε') ∙ own ε'))))
      where
        go : (a b c d : ℕ) → c ≤ d → a + (b + c) ≤ a + b + d
        go a b c d l = omega arith

-- Arguments below 1: from the sums of the square's series to the doubles. Assumes nothing.
use mathlib.Core.Path.{◌≡◌, refl, sym, ap, ◌∙◌, subst}
use mathlib.Core.Bool.{true, false}
use Prim.Native.Nat.{ℕ, suc, ◌+◌, ◌-◌, ◌*◌, ◌/◌, ◌^◌, ◌≤◌, ◌<◌}
use native.Mathlib.Nat.{eq_of_mul-eq-mul_right, mul-one, le_trans, le_of_eq, le_of_lt, le_refl, add-le-add, mul-add, add-mul, mul_comm, mul_assoc, mul_left_comm, mul_right_comm, mul-le-mul_left, mul-le-mul_right, le_of_mul-le-mul_right, le_of_mul-le-mul_left, mul-pos, zero-lt-suc, one-mul, zero-mul, mul-zero, lt_of_lt_of_le}
use native.Mathlib.Omega.{arith}
use lib.Pow.{pow_pos, pow-add}
use lib.IntN.{pos}
use lib.Ieee.{Float, nan, inf, fin, up, down}
use lib.Ieee.Positive.{num, den, den_pos}
use Rattle.circle.specs.Series.{Quarter, east, north, west, south, start, back, part}
use Rattle.circle.specs.Series.{term}
use Rattle.circle.specs.Within.{Within}
use Rattle.circle.specs.Within as C
use Rattle.circle.specs.Inside.Fixed.{Apart, IsHigh, Lies}
use Rattle.circle.specs.Inside.Horner.{IsRoot, Alternating}
use Rattle.sines.specs.Inside.Small.{IsSplit}
use Rattle.circle.proofs.Terms.{term_law}
use Rattle.circle.proofs.Alternate.{east_further, west_further, east_most, west_most, from_zero, from_one}
use Rattle.circle.proofs.Tiny.{small, third, norths, souths, far}
use Rattle.circle.proofs.Signed.{apart_times}
use Rattle.sines.proofs.Doubles.{within_of}
use Rattle.circle.proofs.fixed.Zero.{Whole}

-- ---- a share of i / j that is not above 1 is within 1
pub narrower : (r : Float) (P Q U i j : ℕ) → 0 < j → i ≤ j → Within r P Q U i j → Within r P Q U 1 1
narrower r P Q U i j p h w = record {
  number = w.number;
  under = go (C.plus r * U + Q * den r) (P * den r + C.less r * U) w.under;
  over = go (P * den r + C.less r * U) (C.plus r * U + Q * den r) w.over;
}
  where
    go : (x y : ℕ) → 2 ^ 40 * j * x ≤ 2 ^ 40 * j * y + i * (den r * U) → 2 ^ 40 * 1 * x ≤ 2 ^ 40 * 1 * y + 1 * (den r * U)
    go x y l = plain x y (den r * U) (le_of_mul-le-mul_left {k = j} (le_trans (le_of_eq (sym (turn x))) (le_trans l (le_trans (add_on (2 ^ 40 * j * y) (mul-le-mul_right (den r * U) h)) (le_of_eq (ap (λ (z : ℕ). z + j * (den r * U)) (turn y) ∙ sym (mul-add j (2 ^ 40 * y) (den r * U))))))) p)
      where
        turn : (x : ℕ) → 2 ^ 40 * j * x ≡ j * (2 ^ 40 * x)
        turn x = ap (λ (z : ℕ). z * x) (mul_comm (2 ^ 40) j) ∙ mul_assoc j (2 ^ 40) x

        plain : (x y w : ℕ) → 2 ^ 40 * x ≤ 2 ^ 40 * y + w → 2 ^ 40 * 1 * x ≤ 2 ^ 40 * 1 * y + 1 * w
        plain x y w l = omega (arith, l)

        add_on : (a : ℕ) {b c : ℕ} → b ≤ c → a + b ≤ a + c
        add_on a l = add-le-add (le_refl a) l

-- ---- the share as it is shown: j times r, the sums and the error
share_under : (A D P Q U i j pl le : ℕ) → pl ≡ A → le ≡ 0 → 2 ^ 40 * (j * (A * U) + j * (D * Q)) ≤ 2 ^ 40 * (j * (D * P)) + i * (D * U) → 2 ^ 40 * j * (pl * U + Q * D) ≤ 2 ^ 40 * j * (P * D + le * U) + i * (D * U)
share_under A D P Q U i j pl le p q h = rw (p, q, zero-mul U) (le_trans (le_of_eq one) (le_trans h (le_of_eq (ap (λ (z : ℕ). z + i * (D * U)) two))))
  where
    one : 2 ^ 40 * j * (A * U + Q * D) ≡ 2 ^ 40 * (j * (A * U) + j * (D * Q))
    one = mul_assoc (2 ^ 40) j (A * U + Q * D) ∙ ap (λ (z : ℕ). 2 ^ 40 * z) (mul-add j (A * U) (Q * D) ∙ ap (λ (z : ℕ). j * (A * U) + j * z) (mul_comm Q D))

    two : 2 ^ 40 * (j * (D * P)) ≡ 2 ^ 40 * j * (P * D + 0)
    two = sym (mul_assoc (2 ^ 40) j (D * P)) ∙ ap (λ (z : ℕ). 2 ^ 40 * j * z) (mul_comm D P ∙ go (P * D))
      where
        go : (x : ℕ) → x ≡ x + 0
        go x = omega arith

share_over : (A D P Q U i j pl le : ℕ) → pl ≡ A → le ≡ 0 → 2 ^ 40 * (j * (D * P)) ≤ 2 ^ 40 * (j * (A * U) + j * (D * Q)) + i * (D * U) → 2 ^ 40 * j * (P * D + le * U) ≤ 2 ^ 40 * j * (pl * U + Q * D) + i * (D * U)
share_over A D P Q U i j pl le p q h = rw (p, q, zero-mul U) (le_trans (le_of_eq (sym two)) (le_trans h (le_of_eq (ap (λ (z : ℕ). z + i * (D * U)) (sym one)))))
  where
    one : 2 ^ 40 * j * (A * U + Q * D) ≡ 2 ^ 40 * (j * (A * U) + j * (D * Q))
    one = mul_assoc (2 ^ 40) j (A * U + Q * D) ∙ ap (λ (z : ℕ). 2 ^ 40 * z) (mul-add j (A * U) (Q * D) ∙ ap (λ (z : ℕ). j * (A * U) + j * z) (mul_comm Q D))

    two : 2 ^ 40 * (j * (D * P)) ≡ 2 ^ 40 * j * (P * D + 0)
    two = sym (mul_assoc (2 ^ 40) j (D * P)) ∙ ap (λ (z : ℕ). 2 ^ 40 * j * z) (mul_comm D P ∙ go (P * D))
      where
        go : (x : ℕ) → x ≡ x + 0
        go x = omega arith

-- ---- the cosine
pub cosine_low : (r : Float) (a b q g n : ℕ) → 0 < b → a < b → IsRoot a b q → Alternating 1 q 0 20 20 g → 600 ≤ n → Lies r ((g + 1024) / 2 ^ 11) 1024 ((g + 1024) / 2 ^ 11 + 1024) 0 (2 ^ 52)
    → Within r (part (term a b n) n east) (part (term a b n) n west) (term a b n 0) 1 1
cosine_low r a b q g n p h sq t l v =
    within_of r (g + 1024) (part (term a b n) n east) (part (term a b n) n west) (term a b n 0) 0 v
    (rw (from_zero (term a b n) n east, from_zero (term a b n) n west)
    (go g (term a b n 0) (part (λ (j : ℕ). term a b n (0 + j)) n east * 2 ^ 63) (part (λ (j : ℕ). term a b n (0 + j)) n west * 2 ^ 63) (t.near (term a b n) a b n n p (le_trans (le_of_eq (mul-one a)) (le_of_lt h)) (term_law a b n) sq (enough n l) (same n))))
  where
    enough : (n : ℕ) → 600 ≤ n → 20 ≤ n
    enough n l = omega arith

    same : (n : ℕ) → 0 + n ≤ n
    same n = omega arith

    go : (g U P Q : ℕ) → Apart (g * U) (0 * U) P Q (20 * U) → Apart ((g + 1024) * U) (0 * U) P Q (2 ^ 22 * U)
    go g U P Q a = rw (add-mul g 1024 U) (sums (g * U) (0 * U) a)
      where
        sums : (x z : ℕ) → Apart x z P Q (20 * U) → Apart (x + 1024 * U) z P Q (2 ^ 22 * U)
        sums x z a = record { under = omega (arith, a.under, a.over); over = omega (arith, a.under, a.over) }

-- ---- the sine, on numbers: r is A / D, x is a / b
module _ (G H A D R₀ R₁ a b m g p E W U v : ℕ) (h0 : 0 < H) (isG : G ≡ 2 ^ 63)
    (value_low : A * H ≤ R₁ * D) (value_high : R₀ * D ≤ A * H) (near_low : R₁ ≤ p + 1049088) (near_high : p ≤ R₀ + 1049087) (low : p * G ≤ m * g) (high : m * g ≤ (p + 4) * G)
    (split : a * H ≡ m * b) (least : 2 ^ 62 ≤ m) (first : b * v ≡ a * U) (near : Apart (g * v) (0 * v) (E * G) (W * G) (20 * v)) where
  abbrev B1 : ℕ
  B1 = b * U * D

  abbrev X : ℕ
  X = b * (A * U)

  abbrev Y : ℕ
  Y = b * (D * W)

  abbrev Z : ℕ
  Z = b * (D * E)

  abbrev S : ℕ
  S = a * (D * U)

  own : (R : ℕ) → b * U * (R * D) * G ≡ B1 * (R * G)
  own R = simp (mul_assoc, mul_comm, mul_left_comm)

  held : X * (G * H) ≡ b * U * (A * H) * G
  held = simp (mul_assoc, mul_comm, mul_left_comm)

  own_low : X * (G * H) ≤ B1 * (R₁ * G)
  own_low = le_trans (le_of_eq held) (le_trans (mul-le-mul_right G (mul-le-mul_left (b * U) value_low)) (le_of_eq (own R₁)))

  own_high : B1 * (R₀ * G) ≤ X * (G * H)
  own_high = le_trans (le_of_eq (sym (own R₀))) (le_trans (mul-le-mul_right G (mul-le-mul_left (b * U) value_high)) (le_of_eq (sym held)))

  turned : B1 * (m * g) ≡ b * (D * H) * (g * v)
  turned = one ∙ ap (λ (z : ℕ). U * D * g * z) (sym split) ∙ two ∙ ap (λ (z : ℕ). D * g * H * z) (sym first) ∙ three
    where
      one : b * U * D * (m * g) ≡ U * D * g * (m * b)
      one = simp (mul_assoc, mul_comm, mul_left_comm)

      two : U * D * g * (a * H) ≡ D * g * H * (a * U)
      two = simp (mul_assoc, mul_comm, mul_left_comm)

      three : D * g * H * (b * v) ≡ b * (D * H) * (g * v)
      three = simp (mul_assoc, mul_comm, mul_left_comm)

  unit : b * (D * H) * v ≡ S * H
  unit = one ∙ ap (λ (z : ℕ). D * H * z) first ∙ two
    where
      one : b * (D * H) * v ≡ D * H * (b * v)
      one = simp (mul_assoc, mul_comm, mul_left_comm)

      two : D * H * (a * U) ≡ a * (D * U) * H
      two = simp (mul_assoc, mul_comm, mul_left_comm)

  east_of : b * (D * H) * (E * G) ≡ Z * (G * H)
  east_of = simp (mul_assoc, mul_comm, mul_left_comm)

  west_of : b * (D * H) * (W * G) ≡ Y * (G * H)
  west_of = simp (mul_assoc, mul_comm, mul_left_comm)

  room : B1 * G ≤ 2 * (S * H)
  room = subst (λ (z : ℕ). B1 * z ≤ 2 * (S * H)) (sym isG) (twice B1 (S * H) (le_trans (le_of_eq (one (2 ^ 62))) (le_trans (mul-le-mul_left (U * D) (mul-le-mul_right b least)) (le_of_eq (ap (λ (z : ℕ). U * D * z) (sym split) ∙ two)))))
    where
      one : (t : ℕ) → b * U * D * t ≡ U * D * (t * b)
      one t = simp (mul_assoc, mul_comm, mul_left_comm)

      two : U * D * (a * H) ≡ a * (D * U) * H
      two = simp (mul_assoc, mul_comm, mul_left_comm)

      twice : (x s : ℕ) → x * 2 ^ 62 ≤ s → x * 2 ^ 63 ≤ 2 * s
      twice x s h = omega arith

  -- the rounded product, and the sums, in the common unit
  rounded_low : X * (G * H) ≤ B1 * (m * g) + 1049088 * (B1 * G)
  rounded_low = le_trans own_low (le_trans (mul-le-mul_left B1 (le_trans (mul-le-mul_right G near_low) (le_trans (le_of_eq (add-mul p 1049088 G)) (add-le-add low (le_refl (1049088 * G)))))) (le_of_eq (mul-add B1 (m * g) (1049088 * G) ∙ ap (λ (z : ℕ). B1 * (m * g) + z) (mul_left_comm B1 1049088 G))))

  rounded_high : B1 * (m * g) ≤ X * (G * H) + 1049091 * (B1 * G)
  rounded_high =
      le_trans (mul-le-mul_left B1 (le_trans high (le_trans (mul-le-mul_right G (more p R₀ near_high)) (le_of_eq (add-mul R₀ 1049091 G)))))
      (le_trans (le_of_eq (mul-add B1 (R₀ * G) (1049091 * G) ∙ ap (λ (z : ℕ). B1 * (R₀ * G) + z) (mul_left_comm B1 1049091 G))) (add-le-add own_high (le_refl (1049091 * (B1 * G)))))
    where
      more : (p R : ℕ) → p ≤ R + 1049087 → p + 4 ≤ R + 1049091
      more p R h = omega arith

  summed : Apart (B1 * (m * g)) 0 (Z * (G * H)) (Y * (G * H)) (20 * (S * H))
  summed =
      subst (λ (z : ℕ). Apart (B1 * (m * g)) z (Z * (G * H)) (Y * (G * H)) (20 * (S * H))) (ap (λ (z : ℕ). b * (D * H) * z) (zero-mul v) ∙ mul-zero (b * (D * H)))
      (rw (turned, ← east_of, ← west_of, ← unit, mul_left_comm 20 (b * (D * H)) v) (apart_times (b * (D * H)) near))

  both : (X * (G * H) + Y * (G * H) ≤ Z * (G * H) + 2 ^ 22 * (S * H)) × (Z * (G * H) ≤ X * (G * H) + Y * (G * H) + 2 ^ 22 * (S * H))
  both = go (X * (G * H)) (Y * (G * H)) (Z * (G * H)) (S * H) (B1 * (m * g)) (B1 * G) rounded_low rounded_high room summed
    where
      go : (x y z s c d : ℕ) → x ≤ c + 1049088 * d → c ≤ x + 1049091 * d → d ≤ 2 * s → Apart c 0 z y (20 * s) → (x + y ≤ z + 2 ^ 22 * s) × (z ≤ x + y + 2 ^ 22 * s)
      go x y z s c d h k l a = (omega (arith, h, k, l, a.under, a.over), omega (arith, h, k, l, a.under, a.over))

  pub sine_under : 2 ^ 40 * (X + Y) ≤ 2 ^ 40 * Z + S
  sine_under = finish X Y Z S (subst (λ (t : ℕ). X * t + Y * t ≤ Z * t + 2 ^ 22 * S) isG (le_of_mul-le-mul_right {k = H} (le_trans (le_of_eq left) (le_trans both.0 (le_of_eq right))) h0))
    where
      left : (X * G + Y * G) * H ≡ X * (G * H) + Y * (G * H)
      left = add-mul (X * G) (Y * G) H ∙ ap (λ (z : ℕ). z + Y * G * H) (mul_assoc X G H) ∙ ap (λ (z : ℕ). X * (G * H) + z) (mul_assoc Y G H)

      right : Z * (G * H) + 2 ^ 22 * (S * H) ≡ (Z * G + 2 ^ 22 * S) * H
      right = sym (add-mul (Z * G) (2 ^ 22 * S) H ∙ ap (λ (z : ℕ). z + 2 ^ 22 * S * H) (mul_assoc Z G H) ∙ ap (λ (z : ℕ). Z * (G * H) + z) (mul_assoc (2 ^ 22) S H))

      finish : (x y z s : ℕ) → x * 2 ^ 63 + y * 2 ^ 63 ≤ z * 2 ^ 63 + 2 ^ 22 * s → 2 ^ 40 * (x + y) ≤ 2 ^ 40 * z + s
      finish x y z s h = omega (arith, h)

  pub sine_over : 2 ^ 40 * Z ≤ 2 ^ 40 * (X + Y) + S
  sine_over = finish X Y Z S (subst (λ (t : ℕ). Z * t ≤ X * t + Y * t + 2 ^ 22 * S) isG (le_of_mul-le-mul_right {k = H} (le_trans (le_of_eq (mul_assoc Z G H)) (le_trans both.1 (le_of_eq right))) h0))
    where
      right : X * (G * H) + Y * (G * H) + 2 ^ 22 * (S * H) ≡ (X * G + Y * G + 2 ^ 22 * S) * H
      right = sym (add-mul (X * G + Y * G) (2 ^ 22 * S) H ∙ ap (λ (z : ℕ). z + 2 ^ 22 * S * H) (add-mul (X * G) (Y * G) H ∙ ap (λ (z : ℕ). z + Y * G * H) (mul_assoc X G H) ∙ ap (λ (z : ℕ). X * (G * H) + z) (mul_assoc Y G H)) ∙ ap (λ (z : ℕ). X * (G * H) + Y * (G * H) + z) (mul_assoc (2 ^ 22) S H))

      finish : (x y z s : ℕ) → z * 2 ^ 63 ≤ x * 2 ^ 63 + y * 2 ^ 63 + 2 ^ 22 * s → 2 ^ 40 * z ≤ 2 ^ 40 * (x + y) + s
      finish x y z s h = omega (arith, h)

-- ---- the same of doubles
-- what is not below a number from 0 on has no part below zero
less_none : (r : Float) (p s c : ℕ) → 0 < c → Lies r p 0 s 0 c → C.less r ≡ 0
less_none nan p s c C0 v = refl
less_none (inf b) p s c C0 v = refl
less_none (fin false m e) p s c C0 v = refl
less_none (fin true m e) p s c C0 v = eq_of_mul-eq-mul_right c C0 (m * up e) 0 (go (p * down e) (m * up e * c) (0 * c) (0 * down e) (zero-mul c) (zero-mul (down e)) v.from ∙ sym (zero-mul c))
  where
    go : (x y z w : ℕ) → z ≡ 0 → w ≡ 0 → x + y ≤ z + w → y ≡ 0
    go x y z w e f h = omega arith

pub sine_low : (r : Float) (a b q m k g p n : ℕ) → 0 < b → IsSplit a b m k → IsRoot a b q → Alternating 1 q 1 20 20 g → IsHigh m g p → 600 ≤ n
    → Lies r ((p + 512) / 2 ^ 10 - 1024) 0 ((p + 512) / 2 ^ 10 + 1024) 0 (2 ^ 52 * 2 ^ (k + 1))
    → Within r (part (term a b n) n north) (part (term a b n) n south) (term a b n 0) a b
sine_low r a b q m k g p n b0 s sq t i l v = record {
  number = v.number;
  under = rw (parts north refl, parts south refl) (share_under (C.plus r) (den r) E W U a b (C.plus r) (C.less r) refl none (sine_under (2 ^ 63) (2 ^ 63 * 2 ^ k) (C.plus r) (den r) ((N - 1024) * 2 ^ 10) ((N + 1024) * 2 ^ 10) a b m g p E W U (u 1) h0 refl value_low value_high near_low near_high i.low (le_of_lt i.high) s.value s.least first near));
  over = rw (parts north refl, parts south refl) (share_over (C.plus r) (den r) E W U a b (C.plus r) (C.less r) refl none (sine_over (2 ^ 63) (2 ^ 63 * 2 ^ k) (C.plus r) (den r) ((N - 1024) * 2 ^ 10) ((N + 1024) * 2 ^ 10) a b m g p E W U (u 1) h0 refl value_low value_high near_low near_high i.low (le_of_lt i.high) s.value s.least first near));
}
  where
    u : ℕ → ℕ
    u = term a b n

    d : ℕ
    d = n - 1

    E : ℕ
    E = part (λ (j : ℕ). u (1 + j)) d east

    W : ℕ
    W = part (λ (j : ℕ). u (1 + j)) d west

    U : ℕ
    U = term a b n 0

    N : ℕ
    N = (p + 512) / 2 ^ 10

    near_low : (N + 1024) * 2 ^ 10 ≤ p + 1049088
    near_low = go p
      where
        go : (p : ℕ) → ((p + 512) / 2 ^ 10 + 1024) * 2 ^ 10 ≤ p + 1049088
        go p = omega arith

    near_high : p ≤ (N - 1024) * 2 ^ 10 + 1049087
    near_high = go p
      where
        go : (p : ℕ) → p ≤ ((p + 512) / 2 ^ 10 - 1024) * 2 ^ 10 + 1049087
        go p = omega arith

    longer : (n : ℕ) → 600 ≤ n → n ≡ suc (n - 1)
    longer n l = omega arith

    parts : (c : Quarter) → start c ≡ 0 → part u n c ≡ part (λ (j : ℕ). u (1 + j)) d (back c)
    parts c z = ap (λ (x : ℕ). part u x c) (longer n l) ∙ from_one u d c z

    h0 : 0 < 2 ^ 63 * 2 ^ k
    h0 = mul-pos (pow_pos 63) (pow_pos k)

    -- the bounds in the split's units
    unit : (x : ℕ) → x * (2 ^ 63 * 2 ^ k) ≡ x * (2 ^ 52 * 2 ^ (k + 1)) * 2 ^ 10
    unit x = one x (2 ^ k) ∙ ap (λ (z : ℕ). x * (2 ^ 52 * z) * 2 ^ 10) (sym (pow-add 2 k 1))
      where
        one : (x y : ℕ) → x * (2 ^ 63 * y) ≡ x * (2 ^ 52 * (y * 2)) * 2 ^ 10
        one x y = mul_left_comm x (2 ^ 63) y ∙ go (x * y) ∙ ap (λ (z : ℕ). z * 2 ^ 10) (sym (mul_left_comm x (2 ^ 52) (y * 2) ∙ ap (λ (z : ℕ). 2 ^ 52 * z) (sym (mul_assoc x y 2))))
          where
            go : (z : ℕ) → 2 ^ 63 * z ≡ 2 ^ 52 * (z * 2) * 2 ^ 10
            go z = omega arith

    none : C.less r ≡ 0
    none = less_none r (N - 1024) (N + 1024) (2 ^ 52 * 2 ^ (k + 1)) (mul-pos (pow_pos 52) (pow_pos (k + 1))) v

    value_low : C.plus r * (2 ^ 63 * 2 ^ k) ≤ (N + 1024) * 2 ^ 10 * den r
    value_low = le_trans (le_of_eq (unit (C.plus r))) (le_trans (mul-le-mul_right (2 ^ 10) (upto (C.plus r * (2 ^ 52 * 2 ^ (k + 1))) (0 * den r) ((N + 1024) * den r) (C.less r * (2 ^ 52 * 2 ^ (k + 1))) (ap (λ (z : ℕ). z * (2 ^ 52 * 2 ^ (k + 1))) none ∙ zero-mul (2 ^ 52 * 2 ^ (k + 1))) v.upto)) (le_of_eq (mul_right_comm (N + 1024) (den r) (2 ^ 10))))
      where
        upto : (p z s l : ℕ) → l ≡ 0 → p + z ≤ s + l → p ≤ s
        upto p z s l e h = omega arith

    value_high : (N - 1024) * 2 ^ 10 * den r ≤ C.plus r * (2 ^ 63 * 2 ^ k)
    value_high = le_trans (le_of_eq (mul_right_comm (N - 1024) (2 ^ 10) (den r))) (le_trans (mul-le-mul_right (2 ^ 10) (from ((N - 1024) * den r) (C.less r * (2 ^ 52 * 2 ^ (k + 1))) (C.plus r * (2 ^ 52 * 2 ^ (k + 1))) (0 * den r) (zero-mul (den r)) v.from)) (le_of_eq (sym (unit (C.plus r)))))
      where
        from : (s l p z : ℕ) → z ≡ 0 → s + l ≤ p + z → s ≤ p
        from s l p z e h = omega arith

    first : b * u 1 ≡ a * U
    first = ap (λ (x : ℕ). b * x) (sym (one-mul (u 1))) ∙ term_law a b n 0 (lt_of_lt_of_le (zero-lt-suc 599) l)

    enough : (n : ℕ) → 600 ≤ n → 20 ≤ n - 1
    enough n l = omega arith

    fits : (n : ℕ) → 600 ≤ n → 1 + (n - 1) ≤ n
    fits n l = omega arith

    near : Apart (g * u 1) (0 * u 1) (E * 2 ^ 63) (W * 2 ^ 63) (20 * u 1)
    near = t.near u a b n d b0 (le_trans (le_of_eq (mul-one a)) (le_of_lt s.below)) (term_law a b n) sq (enough n l) (fits n l)

-- ---- below 2 ^ -27: 1 and x
module _ (a b n : ℕ) (b0 : 0 < b) (tiny : a * 2 ^ 27 ≤ b) (l : 600 ≤ n) where
  abbrev tu : ℕ → ℕ
  tu = term a b n

  two_off : (n : ℕ) → 600 ≤ n → n ≡ suc (suc (n - 2))
  two_off n l = omega arith

  pub one_is : Within (fin false 1 (pos 0)) (part (term a b n) n east) (part (term a b n) n west) (term a b n 0) 1 1
  one_is = record {
    number = tt;
    under = rw (easts, wests) (go_under (tu 0) (tu 2) (part (λ (j : ℕ). tu (2 + j)) (n - 2) west) (part (λ (j : ℕ). tu (2 + j)) (n - 2) east) drop second);
    over = rw (easts, wests) (go_over (tu 0) (tu 2) (part (λ (j : ℕ). tu (2 + j)) (n - 2) west) (part (λ (j : ℕ). tu (2 + j)) (n - 2) east) drop first);
  }
    where
      fits : (n : ℕ) → 600 ≤ n → 2 + (n - 2) ≤ n
      fits n l = omega arith

      more : (n : ℕ) → 600 ≤ n → 1 < n
      more n l = omega arith

      easts : part tu n east ≡ tu 0 + part (λ (j : ℕ). tu (2 + j)) (n - 2) west
      easts = from_zero tu n east ∙ ap (λ (x : ℕ). part (λ (j : ℕ). tu (0 + j)) x east) (two_off n l) ∙ east_further tu 0 (n - 2)

      wests : part tu n west ≡ part (λ (j : ℕ). tu (2 + j)) (n - 2) east
      wests = from_zero tu n west ∙ ap (λ (x : ℕ). part (λ (j : ℕ). tu (0 + j)) x west) (two_off n l) ∙ west_further tu 0 (n - 2)

      first : part (λ (j : ℕ). tu (2 + j)) (n - 2) west ≤ tu 2
      first = west_most tu a b n 2 (n - 2) b0 (small a b n b0 tiny l) (term_law a b n) (zero-lt-suc 1) (fits n l)

      second : part (λ (j : ℕ). tu (2 + j)) (n - 2) east ≤ 2 * tu 2
      second = east_most tu a b n 2 (n - 2) b0 (small a b n b0 tiny l) (term_law a b n) (zero-lt-suc 1) (fits n l)

      drop : 2 ^ 54 * (2 * tu 2) ≤ tu 0
      drop = third a b n b0 tiny l 0 (more n l)

      go_under : (U t p q : ℕ) → 2 ^ 54 * (2 * t) ≤ U → q ≤ 2 * t → 2 ^ 40 * 1 * (1 * 1 * U + q * 1) ≤ 2 ^ 40 * 1 * ((U + p) * 1 + 0 * U) + 1 * (1 * U)
      go_under U t p q h k = omega (arith, h, k)

      go_over : (U t p q : ℕ) → 2 ^ 54 * (2 * t) ≤ U → p ≤ t → 2 ^ 40 * 1 * ((U + p) * 1 + 0 * U) ≤ 2 ^ 40 * 1 * (1 * 1 * U + q * 1) + 1 * (1 * U)
      go_over U t p q h k = omega (arith, h, k)

  -- the sine, with x itself as a / b
  abbrev Ww : ℕ
  Ww = part (λ (j : ℕ). tu (3 + j)) (n - 3) west

  abbrev Ee : ℕ
  Ee = part (λ (j : ℕ). tu (3 + j)) (n - 3) east

  fits_3 : (n : ℕ) → 600 ≤ n → 3 + (n - 3) ≤ n
  fits_3 n l = omega arith

  own_first : b * (a * tu 0) ≡ b * b * tu 1
  own_first = ap (λ (x : ℕ). b * x) (sym (ap (λ (x : ℕ). b * x) (sym (one-mul (tu 1))) ∙ term_law a b n 0 (lt_of_lt_of_le (zero-lt-suc 599) l))) ∙ sym (mul_assoc b b (tu 1))

  numbers : (2 ^ 40 * (b * (a * tu 0) + b * (b * Ee)) ≤ 2 ^ 40 * (b * (b * (tu 1 + Ww))) + a * (b * tu 0)) × (2 ^ 40 * (b * (b * (tu 1 + Ww))) ≤ 2 ^ 40 * (b * (a * tu 0) + b * (b * Ee)) + a * (b * tu 0))
  numbers =
      rw (mul_left_comm a b (tu 0), own_first, ← mul_assoc b b Ee, ← mul_assoc b b (tu 1 + Ww), mul-add (b * b) (tu 1) Ww)
      (go (b * b * tu 1) (b * b * tu 3) (b * b * Ww) (b * b * Ee)
      (le_trans (le_of_eq (turn (b * b) (tu 3))) (mul-le-mul_left (b * b) (far a b n b0 tiny l)))
      (mul-le-mul_left (b * b) (west_most tu a b n 3 (n - 3) b0 (small a b n b0 tiny l) (term_law a b n) (zero-lt-suc 2) (fits_3 n l)))
      (le_trans (mul-le-mul_left (b * b) (east_most tu a b n 3 (n - 3) b0 (small a b n b0 tiny l) (term_law a b n) (zero-lt-suc 2) (fits_3 n l))) (le_of_eq (mul_left_comm (b * b) 2 (tu 3)))))
    where
      turn : (B t : ℕ) → 2 ^ 54 * (6 * (B * t)) ≡ B * (2 ^ 54 * (2 * 3 * t))
      turn B t = sym (mul_left_comm B (2 ^ 54) (6 * t) ∙ ap (λ (z : ℕ). 2 ^ 54 * z) (mul_left_comm B 6 t))

      go : (v t w e : ℕ) → 2 ^ 54 * (6 * t) ≤ v → w ≤ t → e ≤ 2 * t → (2 ^ 40 * (v + e) ≤ 2 ^ 40 * (v + w) + v) × (2 ^ 40 * (v + w) ≤ 2 ^ 40 * (v + e) + v)
      go v t w e h k m = (omega (arith, h, k, m), omega (arith, h, k, m))

pub own_is : (x : Float) (n : ℕ) → Whole x → num x * 2 ^ 27 ≤ den x → 600 ≤ n → Within x (part (term (num x) (den x) n) n north) (part (term (num x) (den x) n) n south) (term (num x) (den x) n 0) (num x) (den x)
own_is x n w t l = record {
  number = w.number;
  under = rw (norths (num x) (den x) n (den_pos x) t l, souths (num x) (den x) n (den_pos x) t l) (share_under (num x) (den x) _ _ (term (num x) (den x) n 0) (num x) (den x) (C.plus x) (C.less x) w.more w.none (numbers (num x) (den x) n (den_pos x) t l).0);
  over = rw (norths (num x) (den x) n (den_pos x) t l, souths (num x) (den x) n (den_pos x) t l) (share_over (num x) (den x) _ _ (term (num x) (den x) n 0) (num x) (den x) (C.plus x) (C.less x) w.more w.none (numbers (num x) (den x) n (den_pos x) t l).1);
}

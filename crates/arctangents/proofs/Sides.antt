-- On which side of an arctangent a number lies, by its cosine and its sine. Assumes nothing.
use mathlib.Core.Path.{◌≡◌, refl, sym, ap, ◌∙◌}
use mathlib.Core.Bool.{true, false, true≢false}
use Prim.Native.Nat.{ℕ, suc, ◌+◌, ◌-◌, ◌*◌, ◌/◌, ◌^◌, ◌≤◌, ◌<◌}
use native.Mathlib.Nat.{le_trans, le_of_eq, le_of_lt, le_refl, add-le-add, add-mul, mul_comm, mul_assoc, mul_left_comm, mul_right_comm, mul-le-mul_left, mul-le-mul_right, le_of_mul-le-mul_right, mul-pos, one-mul, suc-mul, div-mul-le_self, lt-div-mul-add}
use native.Mathlib.Omega.{arith}
use lib.Dec.{leb→le}
use Rattle.circle.proofs.Signed.{apart_wider}
use lib.Pow.{pow_pos, pow-add, pow_mono}
use Rattle.circle.specs.Series.{east, north, west, south, part}
use Rattle.circle.specs.Series.{term}
use Rattle.arctangents.specs.Arctangent.{NotAbove, NotBelow, IsArctangent}
use lib.Ieee.{Float, nan, inf, fin, up, down}
use lib.Ieee.Exact.{HasValue}
use lib.Ieee.Positive.{num, den}
use Rattle.circle.specs.Inside.Fixed.{Apart, IsHigh}
use Rattle.circle.specs.Inside.Signed.{plus, less}
use Rattle.circle.specs.Inside.Circle.{State, IsCircle, error}
use Rattle.arctangents.specs.Inside.Arctangent.{Above, Below, Found}

-- ---- comparisons across powers of 2
pub reach_up : (p q i j d : ℕ) → i ≤ j → d ≤ j - i → p / 2 ^ d < q → p * 2 ^ i ≤ q * 2 ^ j
reach_up p q i j d h k l =
    le_trans (mul-le-mul_right (2 ^ i) (le_trans (le_of_lt (lt-div-mul-add (pow_pos d))) (le_trans (le_of_eq (sym (suc-mul (p / 2 ^ d) (2 ^ d)))) (mul-le-mul_right (2 ^ d) l))))
    (le_trans (le_of_eq (mul_assoc q (2 ^ d) (2 ^ i) ∙ ap (λ (z : ℕ). q * z) (sym (pow-add 2 d i)))) (mul-le-mul_left q (pow_mono {i = d + i} {j = j} (room d i j h k))))
  where
    room : (d i j : ℕ) → i ≤ j → d ≤ j - i → d + i ≤ j
    room d i j h k = omega arith

pub reach_down : (p q i j : ℕ) → j ≤ i → p ≤ q / 2 ^ (i - j) → p * 2 ^ i ≤ q * 2 ^ j
reach_down p q i j h l =
    le_trans (le_of_eq (ap (λ (z : ℕ). p * z) (ap (λ (z : ℕ). 2 ^ z) (sym (all i j h)) ∙ pow-add 2 (i - j) j) ∙ sym (mul_assoc p (2 ^ (i - j)) (2 ^ j))))
    (mul-le-mul_right (2 ^ j) (le_trans (mul-le-mul_right (2 ^ (i - j)) l) (div-mul-le_self q (2 ^ (i - j)))))
  where
    all : (i j : ℕ) → j ≤ i → i - j + j ≡ i
    all i j h = omega arith

-- ---- the product with m * 2 ^ (e - 2148), by its upper half
pub sure_above : (t s m e h : ℕ) → IsHigh t (m * 2 ^ 10) h → (h + 4) * 2 ^ e ≤ s * 2 ^ 2095 → (a b : ℕ) → a * (2 ^ 1074 * 2 ^ 1074) ≡ m * 2 ^ e * b → t * a ≤ s * b
sure_above t s m e h i r a b v =
    le_of_mul-le-mul_right {k = 2 ^ 1074 * 2 ^ 1074 * 2 ^ 10}
    (le_trans (le_of_eq (one (2 ^ 1074 * 2 ^ 1074) (2 ^ 10) ∙ ap (λ (z : ℕ). t * z * 2 ^ 10) v ∙ two (2 ^ e) (2 ^ 10)))
    (le_trans (mul-le-mul_right (2 ^ e * b) (le_of_lt i.high))
    (le_trans (le_of_eq (three (h + 4) (2 ^ 63) (2 ^ e)))
    (le_trans (mul-le-mul_right (2 ^ 63 * b) r) (le_of_eq (four (2 ^ 2095) (2 ^ 63)))))))
    (mul-pos (mul-pos (pow_pos 1074) (pow_pos 1074)) (pow_pos 10))
  where
    one : (w z : ℕ) → t * a * (w * z) ≡ t * (a * w) * z
    one w z = simp (mul_assoc)

    two : (w z : ℕ) → t * (m * w * b) * z ≡ t * (m * z) * (w * b)
    two w z = simp (mul_assoc, mul_comm, mul_left_comm)

    three : (x y z : ℕ) → x * y * (z * b) ≡ x * z * (y * b)
    three x y z = simp (mul_assoc, mul_comm, mul_left_comm)

    four : (x y : ℕ) → s * x * (y * b) ≡ s * b * (x * y)
    four x y = simp (mul_assoc, mul_comm, mul_left_comm)

pub sure_below : (t s m e h : ℕ) → IsHigh t (m * 2 ^ 10) h → s * 2 ^ 2095 ≤ h * 2 ^ e → (a b : ℕ) → a * (2 ^ 1074 * 2 ^ 1074) ≡ m * 2 ^ e * b → s * b ≤ t * a
sure_below t s m e h i r a b v =
    le_of_mul-le-mul_right {k = 2 ^ 1074 * 2 ^ 1074 * 2 ^ 10}
    (le_trans (le_of_eq (sym (four (2 ^ 2095) (2 ^ 63))))
    (le_trans (mul-le-mul_right (2 ^ 63 * b) r)
    (le_trans (le_of_eq (sym (three h (2 ^ 63) (2 ^ e))))
    (le_trans (mul-le-mul_right (2 ^ e * b) i.low) (le_of_eq (sym (one (2 ^ 1074 * 2 ^ 1074) (2 ^ 10) ∙ ap (λ (z : ℕ). t * z * 2 ^ 10) v ∙ two (2 ^ e) (2 ^ 10))))))))
    (mul-pos (mul-pos (pow_pos 1074) (pow_pos 1074)) (pow_pos 10))
  where
    one : (w z : ℕ) → t * a * (w * z) ≡ t * (a * w) * z
    one w z = simp (mul_assoc)

    two : (w z : ℕ) → t * (m * w * b) * z ≡ t * (m * z) * (w * b)
    two w z = simp (mul_assoc, mul_comm, mul_left_comm)

    three : (x y z : ℕ) → x * y * (z * b) ≡ x * z * (y * b)
    three x y z = simp (mul_assoc, mul_comm, mul_left_comm)

    four : (x y : ℕ) → s * x * (y * b) ≡ s * b * (x * y)
    four x y = simp (mul_assoc, mul_comm, mul_left_comm)

-- where the tests are not sure
pub unreached_up : (p q i j d : ℕ) → i ≤ j → d ≡ j - i → q ≤ p / 2 ^ d → q * 2 ^ j ≤ p * 2 ^ i + 2 ^ j
unreached_up p q i j d h k l =
    le_trans (le_of_eq (ap (λ (z : ℕ). q * z) (ap (λ (z : ℕ). 2 ^ z) (sym (all d i j h k)) ∙ pow-add 2 d i) ∙ sym (mul_assoc q (2 ^ d) (2 ^ i))))
    (le_trans (mul-le-mul_right (2 ^ i) (le_trans (mul-le-mul_right (2 ^ d) l) (div-mul-le_self p (2 ^ d)))) (more (p * 2 ^ i) (2 ^ j)))
  where
    all : (d i j : ℕ) → i ≤ j → d ≡ j - i → d + i ≡ j
    all d i j h k = omega arith

    more : (a b : ℕ) → a ≤ a + b
    more a b = omega arith

pub unreached_small : (p q i j : ℕ) → p < 2 ^ 64 → q ≤ p / 2 ^ 63 → q * 2 ^ j ≤ p * 2 ^ i + 2 ^ j
unreached_small p q i j h l = le_trans (mul-le-mul_right (2 ^ j) (one p q h l)) (le_trans (le_of_eq (one-mul (2 ^ j))) (more (p * 2 ^ i) (2 ^ j)))
  where
    one : (p q : ℕ) → p < 2 ^ 64 → q ≤ p / 2 ^ 63 → q ≤ 1
    one p q h l = omega arith

    more : (a b : ℕ) → b ≤ a + b
    more a b = omega arith

pub unreached_down : (p q i j : ℕ) → j ≤ i → q / 2 ^ (i - j) < p → q * 2 ^ j ≤ p * 2 ^ i + 2 ^ j
unreached_down p q i j h l =
    le_trans (mul-le-mul_right (2 ^ j) (le_trans (le_of_lt (lt-div-mul-add (pow_pos (i - j)))) (le_trans (le_of_eq (sym (suc-mul (q / 2 ^ (i - j)) (2 ^ (i - j))))) (mul-le-mul_right (2 ^ (i - j)) l))))
    (le_trans (le_of_eq (mul_assoc p (2 ^ (i - j)) (2 ^ j) ∙ ap (λ (z : ℕ). p * z) (sym (pow-add 2 (i - j) j) ∙ ap (λ (z : ℕ). 2 ^ z) (all i j h)))) (more (p * 2 ^ i) (2 ^ j)))
  where
    all : (i j : ℕ) → j ≤ i → i - j + j ≡ i
    all i j h = omega arith

    more : (a b : ℕ) → a ≤ a + b
    more a b = omega arith

pub unreached_far : (p q i j : ℕ) → q < 2 ^ 64 → 0 < p → j ≤ i → 64 ≤ i - j → q * 2 ^ j ≤ p * 2 ^ i + 2 ^ j
unreached_far p q i j h p0 k l =
    le_trans (mul-le-mul_right (2 ^ j) (le_trans (le_of_lt h) (pow_mono {i = 64} {j = i - j} l)))
    (le_trans (le_of_eq (sym (pow-add 2 (i - j) j) ∙ ap (λ (z : ℕ). 2 ^ z) (all i j k))) (le_trans (le_trans (le_of_eq (sym (one-mul (2 ^ i)))) (mul-le-mul_right (2 ^ i) p0)) (more (p * 2 ^ i) (2 ^ j))))
  where
    all : (i j : ℕ) → j ≤ i → i - j + j ≡ i
    all i j h = omega arith

    more : (a b : ℕ) → a ≤ a + b
    more a b = omega arith

pub unsure_above : (t s m e h : ℕ) → IsHigh t (m * 2 ^ 10) h → 2 ^ 52 ≤ m → s * 2 ^ 2095 ≤ (h + 4) * 2 ^ e + 2 ^ 2095 → (a b : ℕ) → a * (2 ^ 1074 * 2 ^ 1074) ≡ m * 2 ^ e * b → s * b ≤ (t + 8) * a + b
unsure_above t s m e h i l r a b v =
    le_of_mul-le-mul_right {k = 2 ^ 1074 * 2 ^ 1074 * 2 ^ 10}
    (le_trans (le_of_eq (sym (four s (2 ^ 2095) (2 ^ 63))))
    (le_trans (mul-le-mul_right (2 ^ 63 * b) r)
    (le_trans (le_of_eq (add-mul ((h + 4) * 2 ^ e) (2 ^ 2095) (2 ^ 63 * b)))
    (le_trans (add-le-add (le_trans (le_of_eq (three (h + 4) (2 ^ e) (2 ^ 63))) (le_trans (mul-le-mul_right (2 ^ e * b) upper) (le_of_eq (sym (one (t + 8) (2 ^ 1074 * 2 ^ 1074) (2 ^ 10) ∙ ap (λ (z : ℕ). (t + 8) * z * 2 ^ 10) v ∙ two (t + 8) (2 ^ e) (2 ^ 10)))))) (le_of_eq (five (2 ^ 2095) (2 ^ 63))))
    (le_of_eq (sym (add-mul ((t + 8) * a) b (2 ^ 1074 * 2 ^ 1074 * 2 ^ 10))))))))
    (mul-pos (mul-pos (pow_pos 1074) (pow_pos 1074)) (pow_pos 10))
  where
    one : (x w z : ℕ) → x * a * (w * z) ≡ x * (a * w) * z
    one x w z = simp (mul_assoc, mul_comm, mul_left_comm)

    two : (x w z : ℕ) → x * (m * w * b) * z ≡ x * (m * z) * (w * b)
    two x w z = simp (mul_assoc, mul_comm, mul_left_comm)

    three : (x y z : ℕ) → x * y * (z * b) ≡ x * z * (y * b)
    three x y z = simp (mul_assoc, mul_comm, mul_left_comm)

    four : (x y z : ℕ) → x * y * (z * b) ≡ x * b * (y * z)
    four x y z = simp (mul_assoc, mul_comm, mul_left_comm)

    five : (x y : ℕ) → x * (y * b) ≡ b * (x * y)
    five x y = simp (mul_comm, mul_left_comm)

    upper : (h + 4) * 2 ^ 63 ≤ (t + 8) * (m * 2 ^ 10)
    upper = le_trans (le_of_eq (add-mul h 4 (2 ^ 63))) (le_trans (add-le-add i.low (go m l)) (le_of_eq (sym (add-mul t 8 (m * 2 ^ 10)))))
      where
        go : (m : ℕ) → 2 ^ 52 ≤ m → 4 * 2 ^ 63 ≤ 8 * (m * 2 ^ 10)
        go m l = omega arith

pub unsure_below : (t s m e h : ℕ) → IsHigh t (m * 2 ^ 10) h → 2 ^ 52 ≤ m → h * 2 ^ e ≤ s * 2 ^ 2095 + 2 ^ e → (a b : ℕ) → a * (2 ^ 1074 * 2 ^ 1074) ≡ m * 2 ^ e * b → t * a ≤ s * b + 10 * a
unsure_below t s m e h i l r a b v =
    le_of_mul-le-mul_right {k = 2 ^ 1074 * 2 ^ 1074 * 2 ^ 10}
    (le_trans (le_of_eq (one t (2 ^ 1074 * 2 ^ 1074) (2 ^ 10) ∙ ap (λ (z : ℕ). t * z * 2 ^ 10) v ∙ two t (2 ^ e) (2 ^ 10)))
    (le_trans (mul-le-mul_right (2 ^ e * b) (le_of_lt i.high))
    (le_trans (le_of_eq (three (h + 4) (2 ^ 63) (2 ^ e)))
    (le_trans (mul-le-mul_right (2 ^ 63 * b) grown)
    (le_trans (le_of_eq (add-mul (s * 2 ^ 2095) (5 * 2 ^ e) (2 ^ 63 * b)))
    (le_trans (add-le-add (le_of_eq (four s (2 ^ 2095) (2 ^ 63))) (le_trans (le_of_eq (three 5 (2 ^ e) (2 ^ 63))) (le_trans (mul-le-mul_right (2 ^ e * b) (go m l)) (le_of_eq (sym (one 10 (2 ^ 1074 * 2 ^ 1074) (2 ^ 10) ∙ ap (λ (z : ℕ). 10 * z * 2 ^ 10) v ∙ two 10 (2 ^ e) (2 ^ 10)))))))
    (le_of_eq (sym (add-mul (s * b) (10 * a) (2 ^ 1074 * 2 ^ 1074 * 2 ^ 10))))))))))
    (mul-pos (mul-pos (pow_pos 1074) (pow_pos 1074)) (pow_pos 10))
  where
    one : (x w z : ℕ) → x * a * (w * z) ≡ x * (a * w) * z
    one x w z = simp (mul_assoc, mul_comm, mul_left_comm)

    two : (x w z : ℕ) → x * (m * w * b) * z ≡ x * (m * z) * (w * b)
    two x w z = simp (mul_assoc, mul_comm, mul_left_comm)

    three : (x y z : ℕ) → x * y * (z * b) ≡ x * z * (y * b)
    three x y z = simp (mul_assoc, mul_comm, mul_left_comm)

    four : (x y z : ℕ) → x * y * (z * b) ≡ x * b * (y * z)
    four x y z = simp (mul_assoc, mul_comm, mul_left_comm)

    go : (m : ℕ) → 2 ^ 52 ≤ m → 5 * 2 ^ 63 ≤ 10 * (m * 2 ^ 10)
    go m l = omega arith

    grown : (h + 4) * 2 ^ e ≤ s * 2 ^ 2095 + 5 * 2 ^ e
    grown = le_trans (le_of_eq (add-mul h 4 (2 ^ e))) (sums (h * 2 ^ e) (s * 2 ^ 2095) (2 ^ e) r)
      where
        sums : (x y z : ℕ) → x ≤ y + z → x + 4 * z ≤ y + 5 * z
        sums x y z h = omega arith

-- ---- what the tests say of the partial sums
pub error_5 : error 5 ≤ 8192
unfolding error
error_5 = leb→le (error 5) 8192 tt

module _ (W G Pe Pw Pn Ps ε cp cm sp sm t s a b : ℕ) (g0 : 0 < G) (few : ε ≤ 8192)
    (cosine : Apart (cp * W) (cm * W) (Pe * G) (Pw * G) (ε * W)) (sine : Apart (sp * W) (sm * W) (Pn * G) (Ps * G) (ε * W)) where
  -- a sum of sizes, in the sums' units
  spread : (x y z : ℕ) → x + 8192 ≤ y + z → x * W + ε * W ≤ y * W + z * W
  spread x y z h = le_trans (add-le-add (le_refl (x * W)) (mul-le-mul_right W few)) (le_trans (le_of_eq (sym (add-mul x 8192 W))) (le_trans (mul-le-mul_right W h) (le_of_eq (add-mul y z W))))

  spread' : (x y z : ℕ) → x + y + 8192 ≤ z → x * W + y * W + ε * W ≤ z * W
  spread' x y z h = le_trans (add-le-add (le_of_eq (sym (add-mul x y W))) (mul-le-mul_right W few)) (le_trans (le_of_eq (sym (add-mul (x + y) 8192 W))) (mul-le-mul_right W h))

  over : cp + 8192 ≤ t + cm → s + sm + 8192 ≤ sp → t * a ≤ s * b → Pe * a + Ps * b ≤ Pn * b + Pw * a
  over h k l =
      le_of_mul-le-mul_right {k = G}
      (le_trans (le_of_eq (add-mul (Pe * a) (Ps * b) G ∙ ap (λ (z : ℕ). z + Ps * b * G) (mul_right_comm Pe a G) ∙ ap (λ (z : ℕ). Pe * G * a + z) (mul_right_comm Ps b G)))
      (le_trans (go (Pe * G * a) (Ps * G * b) (Pn * G * b) (Pw * G * a) (t * W * a) (s * W * b)
      (le_trans (mul-le-mul_right a easts) (le_of_eq (add-mul (Pw * G) (t * W) a)))
      (le_trans (le_of_eq (sym (add-mul (Ps * G) (s * W) b))) (mul-le-mul_right b norths))
      (le_trans (le_of_eq (mul_right_comm t W a)) (le_trans (mul-le-mul_right W l) (le_of_eq (mul_right_comm s b W)))))
      (le_of_eq (sym (add-mul (Pn * b) (Pw * a) G ∙ ap (λ (z : ℕ). z + Pw * a * G) (mul_right_comm Pn b G) ∙ ap (λ (z : ℕ). Pn * G * b + z) (mul_right_comm Pw a G))))))
      g0
    where
      easts : Pe * G ≤ Pw * G + t * W
      easts = sums (cp * W) (cm * W) (Pe * G) (Pw * G) (ε * W) (t * W) cosine.over (spread cp t cm h)
        where
          sums : (c d p q e w : ℕ) → p + d ≤ c + q + e → c + e ≤ w + d → p ≤ q + w
          sums c d p q e w u v = omega arith

      norths : Ps * G + s * W ≤ Pn * G
      norths = sums (sp * W) (sm * W) (Pn * G) (Ps * G) (ε * W) (s * W) sine.under (spread' s sm sp k)
        where
          sums : (c d p q e w : ℕ) → c + q ≤ p + d + e → w + d + e ≤ c → q + w ≤ p
          sums c d p q e w u v = omega arith

      go : (e s n w t z : ℕ) → e ≤ w + t → s + z ≤ n → t ≤ z → e + s ≤ n + w
      go e s n w t z u v x = omega arith

  under : t + cm + 8192 ≤ cp → sp + 8192 ≤ s + sm → s * b ≤ t * a → Pn * b + Pw * a ≤ Pe * a + Ps * b
  under h k l =
      le_of_mul-le-mul_right {k = G}
      (le_trans (le_of_eq (add-mul (Pn * b) (Pw * a) G ∙ ap (λ (z : ℕ). z + Pw * a * G) (mul_right_comm Pn b G) ∙ ap (λ (z : ℕ). Pn * G * b + z) (mul_right_comm Pw a G)))
      (le_trans (go (Pe * G * a) (Ps * G * b) (Pn * G * b) (Pw * G * a) (t * W * a) (s * W * b)
      (le_trans (le_of_eq (sym (add-mul (Pw * G) (t * W) a))) (mul-le-mul_right a easts))
      (le_trans (mul-le-mul_right b norths) (le_of_eq (add-mul (Ps * G) (s * W) b)))
      (le_trans (le_of_eq (mul_right_comm s W b)) (le_trans (mul-le-mul_right W l) (le_of_eq (mul_right_comm t a W)))))
      (le_of_eq (sym (add-mul (Pe * a) (Ps * b) G ∙ ap (λ (z : ℕ). z + Ps * b * G) (mul_right_comm Pe a G) ∙ ap (λ (z : ℕ). Pe * G * a + z) (mul_right_comm Ps b G))))))
      g0
    where
      easts : Pw * G + t * W ≤ Pe * G
      easts = sums (cp * W) (cm * W) (Pe * G) (Pw * G) (ε * W) (t * W) cosine.under (spread' t cm cp h)
        where
          sums : (c d p q e w : ℕ) → c + q ≤ p + d + e → w + d + e ≤ c → q + w ≤ p
          sums c d p q e w u v = omega arith

      norths : Pn * G ≤ Ps * G + s * W
      norths = sums (sp * W) (sm * W) (Pn * G) (Ps * G) (ε * W) (s * W) sine.over (spread sp s sm k)
        where
          sums : (c d p q e w : ℕ) → p + d ≤ c + q + e → c + e ≤ w + d → p ≤ q + w
          sums c d p q e w u v = omega arith

      go : (e s n w t z : ℕ) → w + t ≤ e → n ≤ s + z → z ≤ t → n + w ≤ e + s
      go e s n w t z u v x = omega arith

-- ---- at y / 2 ^ 58
pub state_at : (y cn c sn s : ℕ) → y ≤ 2 ^ 59 → IsCircle y 5 cn c sn s → (n : ℕ) → 600 ≤ n → State (term y (2 ^ 58) n) (term y (2 ^ 58) n 0) n (2 ^ 63) (error 5) (plus cn c) (less cn c) (plus sn s) (less sn s)
state_at y cn c sn s h i n l = i y (2 ^ 52) n (pow_pos 52) (le_trans h (leb→le (2 ^ 59) (200 * 2 ^ 52) tt)) (le_refl (y * 2 ^ 52)) (mul-le-mul_right (2 ^ 52) (more y)) l
  where
    more : (y : ℕ) → y ≤ suc y
    more y = omega arith

-- c and s are the cosine and the sine at y / 2 ^ 58, within 2 ^ -50
abbrev pub Stated : ℕ → ℕ → ℕ → ℕ → ℕ → Type 0
Stated y cn c sn s = (n : ℕ) → 600 ≤ n → State (term y (2 ^ 58) n) (term y (2 ^ 58) n 0) n (2 ^ 63) 8192 (plus cn c) (less cn c) (plus sn s) (less sn s)

pub stated : (y cn c sn s : ℕ) → y ≤ 2 ^ 59 → IsCircle y 5 cn c sn s → Stated y cn c sn s
stated y cn c sn s h i n l =
    let t = state_at y cn c sn s h i n l in
    record { cosine = apart_wider t.cosine (mul-le-mul_right (term y (2 ^ 58) n 0) error_5); sine = apart_wider t.sine (mul-le-mul_right (term y (2 ^ 58) n 0) error_5) }

pub above_is : (y cn c sn s m e : ℕ) → Stated y cn c sn s → Above cn c sn s m e → (a b : ℕ) → a * (2 ^ 1074 * 2 ^ 1074) ≡ m * 2 ^ e * b → (n : ℕ) → 600 ≤ n → NotBelow a b y (2 ^ 58) n
above_is y cn c sn s m e i u a b v n l =
    let t = i n l in
    over (term y (2 ^ 58) n 0) (2 ^ 63) (part (term y (2 ^ 58) n) n east) (part (term y (2 ^ 58) n) n west) (part (term y (2 ^ 58) n) n north) (part (term y (2 ^ 58) n) n south) 8192 (plus cn c) (less cn c) (plus sn s) (less sn s) u.top u.bottom a b (pow_pos 63) (le_refl 8192) t.cosine t.sine u.east_side u.north_side (u.sure a b v)

pub below_is : (y cn c sn s m e : ℕ) → Stated y cn c sn s → Below cn c sn s m e → (a b : ℕ) → a * (2 ^ 1074 * 2 ^ 1074) ≡ m * 2 ^ e * b → (n : ℕ) → 600 ≤ n → NotAbove a b y (2 ^ 58) n
below_is y cn c sn s m e i u a b v n l =
    let t = i n l in
    under (term y (2 ^ 58) n 0) (2 ^ 63) (part (term y (2 ^ 58) n) n east) (part (term y (2 ^ 58) n) n west) (part (term y (2 ^ 58) n) n north) (part (term y (2 ^ 58) n) n south) 8192 (plus cn c) (less cn c) (plus sn s) (less sn s) u.top u.bottom a b (pow_pos 63) (le_refl 8192) t.cosine t.sine u.east_side u.north_side (u.sure a b v)

-- ---- a bound below, as a double
pub found_is : (x r : Float) (l m e : ℕ) → Found m e l → HasValue r false (l / 2 ^ 6) (2 ^ 52) → num x * (2 ^ 1074 * 2 ^ 1074) ≡ m * 2 ^ e * den x → IsArctangent x r
found_is x nan l m e f v w = absurd v
found_is x (inf s) l m e f v w = absurd v
found_is x (fin true k d) l m e f v w = absurd (true≢false v.0)
found_is x (fin false k d) l m e f v w = record {
  number = tt;
  not_negative = refl;
  low = l;
  up = f.up;
  low_near = le_trans (le_of_eq same) (mul-le-mul_right (down d) (lower l));
  up_near = le_trans (mul-le-mul_right (down d) (higher l f.up f.near)) (le_of_eq (add-mul (l / 2 ^ 6 * 2 ^ 6) (2 ^ 18) (down d) ∙ ap (λ (z : ℕ). z + 2 ^ 18 * down d) (sym same)));
  low_upto_two = le_trans (le_of_lt f.order) f.upto;
  up_upto_two = f.upto;
  from_below = f.bounds.from_below (num x) (den x) w;
  from_above = f.bounds.from_above (num x) (den x) w;
}
  where
    same : k * up d * 2 ^ 58 ≡ l / 2 ^ 6 * 2 ^ 6 * down d
    same = sym (mul_assoc (k * up d) (2 ^ 52) (2 ^ 6)) ∙ ap (λ (z : ℕ). z * 2 ^ 6) v.1 ∙ mul_right_comm (l / 2 ^ 6) (down d) (2 ^ 6)

    lower : (l : ℕ) → l / 2 ^ 6 * 2 ^ 6 ≤ l + 2 ^ 18
    lower l = omega arith

    higher : (l u : ℕ) → u ≤ l + 0x3ffc0 → u ≤ l / 2 ^ 6 * 2 ^ 6 + 2 ^ 18
    higher l u h = omega arith

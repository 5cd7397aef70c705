-- `sqrt` gives the nearest double: of any two finite doubles the exact root of x lies on the side of `sqrt x`. Assumes nothing.
use Rattle.std.proofs.Common.{◌≡◌, ℕ, suc, ◌+◌, ◌-◌, ◌*◌, ◌/◌, ◌%◌, ◌^◌, ◌<◌, ◌≤◌, true, false, T, ℤ, pos, sym, ap, ◌∙◌, subst, le_trans, le_of_eq, le_refl, lt_of_lt_of_le, lt_of_le_of_lt, le_of_lt, mul-le-mul_right, mul_assoc, mul_comm, add-mul, mul-le-mul, lt_of_mul-lt-mul_right, mul-lt-mul_of_pos_right, mul-pos, lt_of_not-le, mul-one, mul_right_comm, not-le_of_lt, div-one, arith, ltb→lt, pow_pos, pow_mono, pow-add}
use Prim.Native.Nat.{compare, Ordering}
use native.Mathlib.Nat.{mul-mul-mul_comm, pow-succ'}
use native.Mathlib.Decide.{dec_le}
use lib.Ieee.{Float, nan, inf, fin, up, down, binary64, nearest, units, to_bits, lt, fits}
use lib.Ieee.Exact.{HasValue, units_val}
use lib.Ieee.Fits.{down_pos}
use lib.Ieee.Positive.{num, den, positive, den_pos, own_value, value_pos, value→cross, positive_of_value}
use lib.Ieee.Scale.{finite}
use Rattle.arith.specs.Root.{floor_root, nearest_root, sqrt}
use Rattle.arith.specs.Inside.Scaled.{IsScaled}
use Rattle.arith.specs.NearestRoot.{NearestRoot, RootBelowMiddle, RootAboveMiddle}
use Rattle.arith.proofs.Units.{U, InUnits, in_units}
use Rattle.arith.proofs.root.Squares.{floor_root_is, sq_lt_back, sq_odd, sq_suc, compared, Compared}
use Rattle.arith.proofs.root.Pack.{bits_pos, bits_finite, units_fit, under}
use Rattle.arith.proofs.root.Unpack.{moved, scaled_low, scaled_high}
use Rattle.arith.proofs.root.Radicand.{four_squares, n, n_lo, result_ge, result_le, radicand, root_units}
use lib.Count.{count_leading_zeros}

-- ---- the doubles on either side of r * 2 ^ k units, for an r of 53 digits
module _ (r k m j : ℕ) (least : 2 ^ 52 ≤ r) (few : m < 2 ^ 53) where
  -- a finer double is below every such r
  finer : j < k → m * 2 ^ j < 2 ^ 52 * 2 ^ k
  finer h =
      lt_of_lt_of_le (mul-lt-mul_of_pos_right few (pow_pos j))
      (le_trans (le_of_eq (mul_assoc (2 ^ 52) 2 (2 ^ j) ∙ ap (λ (x : ℕ). 2 ^ 52 * x) (sym (pow-succ' 2 j)))) (mul-le-mul (le_refl (2 ^ 52)) (pow_mono h)))

  -- a coarser one is a multiple of 2 ^ k
  coarser : k ≤ j → m * 2 ^ j ≡ m * 2 ^ (j - k) * 2 ^ k
  coarser h = ap (λ (x : ℕ). m * 2 ^ x) (back k j h) ∙ ap (λ (x : ℕ). m * x) (pow-add 2 (j - k) k) ∙ sym (mul_assoc m (2 ^ (j - k)) (2 ^ k))
    where
      back : (k j : ℕ) → k ≤ j → j ≡ j - k + k
      back k j h = omega arith

  next : r * 2 ^ k < m * 2 ^ j → suc r * 2 ^ k ≤ m * 2 ^ j
  next h = go (dec_le k j)
    where
      go : Dec (k ≤ j) → suc r * 2 ^ k ≤ m * 2 ^ j
      go (yes l) = le_trans (mul-le-mul_right (2 ^ k) (lt_of_mul-lt-mul_right (2 ^ k) (subst (λ (x : ℕ). r * 2 ^ k < x) (coarser l) h))) (le_of_eq (sym (coarser l)))
      go (no f) = absurd (not-le_of_lt (lt_of_le_of_lt (mul-le-mul_right (2 ^ k) least) h) (le_of_lt (finer (lt_of_not-le f))))

  -- where r is not the least of its digits
  last : (p : ℕ) → r ≡ suc p → 2 ^ 52 ≤ p → m * 2 ^ j < r * 2 ^ k → m * 2 ^ j ≤ p * 2 ^ k
  last p e b h = go (dec_le k j)
    where
      down_one : (a : ℕ) → a < r → a ≤ p
      down_one a l = omega arith

      go : Dec (k ≤ j) → m * 2 ^ j ≤ p * 2 ^ k
      go (yes l) = le_trans (le_of_eq (coarser l)) (mul-le-mul_right (2 ^ k) (down_one (m * 2 ^ (j - k)) (lt_of_mul-lt-mul_right (2 ^ k) (subst (λ (x : ℕ). x < r * 2 ^ k) (coarser l) h))))
      go (no f) = le_trans (le_of_lt (finer (lt_of_not-le f))) (mul-le-mul_right (2 ^ k) b)

-- ---- `nearest_root` of a whole number: the root is less than a half away
module _ (a : ℕ) (some : 0 < a) where
  abbrev q : ℕ
  q = floor_root a

  abbrev Close : ℕ → Type 0
  Close r = (4 * a < (2 * r + 1) * (2 * r + 1)) × ((p : ℕ) → r ≡ suc p → (2 * p + 1) * (2 * p + 1) < 4 * a)

  close : Close (nearest_root a 1)
  unfolding nearest_root
  close = subst (λ (x : ℕ). Close (nearest (floor_root x) (compare (a * 4) ((2 * floor_root x + 1) * (2 * floor_root x + 1) * 1)))) (sym (div-one a)) (go (compare (a * 4) ((2 * q + 1) * (2 * q + 1) * 1)) (compared (a * 4) ((2 * q + 1) * (2 * q + 1) * 1)))
    where
      mid : (2 * q + 1) * (2 * q + 1) * 1 ≡ 4 * (q * q) + 4 * q + 1
      mid = mul-one ((2 * q + 1) * (2 * q + 1)) ∙ sq_odd q

      low : q * q ≤ a
      low = (floor_root_is a).0

      high : a < q * q + 2 * q + 1
      high = subst (λ (x : ℕ). a < x) (sq_suc q) (floor_root_is a).1

      down_one : (p : ℕ) → q ≡ suc p → (2 * p + 1) * (2 * p + 1) < 4 * a
      down_one p e = subst (λ (x : ℕ). x < 4 * a) (sym (sq_odd p)) (under (p * p) (subst (λ (x : ℕ). x ≤ a) (ap (λ (x : ℕ). x * x) e ∙ sq_suc p) low))
        where
          under : (s : ℕ) → s + 2 * p + 1 ≤ a → 4 * s + 4 * p + 1 < 4 * a
          under s h = omega arith

      go : (o : Ordering) → Compared o (a * 4) ((2 * q + 1) * (2 * q + 1) * 1) → Close (nearest q o)
      go Ordering.lt h = (subst (λ (x : ℕ). 4 * a < x) (mul-one ((2 * q + 1) * (2 * q + 1))) (swap h), down_one)
        where
          swap : a * 4 < (2 * q + 1) * (2 * q + 1) * 1 → 4 * a < (2 * q + 1) * (2 * q + 1) * 1
          swap h = subst (λ (x : ℕ). x < (2 * q + 1) * (2 * q + 1) * 1) (mul_comm a 4) h
      go Ordering.eq h = absurd (parity (q * q) (h ∙ mid))
        where
          parity : (s : ℕ) → a * 4 ≡ 4 * s + 4 * q + 1 → ⊥
          parity s e = omega arith
      go Ordering.gt h = (
        subst (λ (x : ℕ). 4 * a < x) (sym (sq_odd (suc q) ∙ ap (λ (x : ℕ). 4 * x + 4 * suc q + 1) (sq_suc q))) (upper (q * q) high),
        λ p e. subst (λ (x : ℕ). (2 * x + 1) * (2 * x + 1) < 4 * a) (drop p e) (subst (λ (x : ℕ). (2 * q + 1) * (2 * q + 1) < x) (mul_comm a 4) (subst (λ (x : ℕ). x < a * 4) (mul-one ((2 * q + 1) * (2 * q + 1))) h)),
      )
        where
          upper : (s : ℕ) → a < s + 2 * q + 1 → 4 * a < 4 * (s + 2 * q + 1) + 4 * suc q + 1
          upper s h = omega arith

          drop : (p : ℕ) → suc q ≡ suc p → q ≡ p
          drop p e = omega arith

-- ---- in units: a is the number whose root has r for the nearest whole number, and a * 4 ^ k is the radicand
module _ (a r k m j : ℕ) (lo : 2 ^ 104 ≤ a) (least : 2 ^ 52 ≤ r) (few : m < 2 ^ 53) (up_to_h : 4 * a < (2 * r + 1) * (2 * r + 1)) (down_to : (p : ℕ) → r ≡ suc p → (2 * p + 1) * (2 * p + 1) < 4 * a) where
  squared : (x : ℕ) → x * 2 ^ k * (x * 2 ^ k) ≡ x * x * 4 ^ k
  squared x = mul-mul-mul_comm x (2 ^ k) x (2 ^ k) ∙ ap (λ (y : ℕ). x * x * y) (sym (four_squares k))

  four_pos : 0 < 4 ^ k
  four_pos = subst (λ (x : ℕ). 0 < x) (sym (four_squares k)) (mul-pos (pow_pos k) (pow_pos k))

  above : r * 2 ^ k < m * 2 ^ j → 4 * (a * 4 ^ k) < (r * 2 ^ k + m * 2 ^ j) * (r * 2 ^ k + m * 2 ^ j)
  above h =
      lt_of_lt_of_le (subst (λ (x : ℕ). x < (2 * r + 1) * (2 * r + 1) * 4 ^ k) (mul_assoc 4 a (4 ^ k)) (mul-lt-mul_of_pos_right up_to_h four_pos))
      (le_trans (le_of_eq (sym (squared (2 * r + 1)))) (mul-le-mul wide wide))
    where
      wide : (2 * r + 1) * 2 ^ k ≤ r * 2 ^ k + m * 2 ^ j
      wide = le_trans (le_of_eq (ap (λ (x : ℕ). x * 2 ^ k) (parts r) ∙ add-mul r (suc r) (2 ^ k))) (more (r * 2 ^ k) (suc r * 2 ^ k) (m * 2 ^ j) (next r k m j least few h))
        where
          parts : (r : ℕ) → 2 * r + 1 ≡ r + suc r
          parts r = omega arith

          more : (x y z : ℕ) → y ≤ z → x + y ≤ x + z
          more x y z h = omega arith

  below : m * 2 ^ j < r * 2 ^ k → (r * 2 ^ k + m * 2 ^ j) * (r * 2 ^ k + m * 2 ^ j) < 4 * (a * 4 ^ k)
  below h = go (dec_le (r * r) a)
    where
      narrow : (x y z : ℕ) → y < z → x + y < x + z
      narrow x y z h = omega arith

      sq_lt : (x y : ℕ) → x < y → x * x < y * y
      sq_lt x y l = lt_of_le_of_lt (mul-le-mul (le_refl x) (le_of_lt l)) (mul-lt-mul_of_pos_right l (positive_of x y l))
        where
          positive_of : (x y : ℕ) → x < y → 0 < y
          positive_of x y l = omega arith

      doubled : (r * 2 ^ k + r * 2 ^ k) * (r * 2 ^ k + r * 2 ^ k) ≡ 4 * (r * r) * 4 ^ k
      doubled = ap (λ (x : ℕ). x * x) (sym (add-mul r r (2 ^ k))) ∙ squared (r + r) ∙ ap (λ (x : ℕ). x * 4 ^ k) (ap (λ (x : ℕ). x * x) (twice r) ∙ mul-mul-mul_comm 2 r 2 r)
        where
          twice : (r : ℕ) → r + r ≡ 2 * r
          twice r = omega arith

      -- the root is r or above
      easy : r * r ≤ a → (r * 2 ^ k + m * 2 ^ j) * (r * 2 ^ k + m * 2 ^ j) < 4 * (a * 4 ^ k)
      easy l =
          lt_of_lt_of_le (sq_lt (r * 2 ^ k + m * 2 ^ j) (r * 2 ^ k + r * 2 ^ k) (narrow (r * 2 ^ k) (m * 2 ^ j) (r * 2 ^ k) h))
          (le_trans (le_of_eq doubled) (le_trans (mul-le-mul_right (4 ^ k) (mul-le-mul (le_refl 4) l)) (le_of_eq (mul_assoc 4 a (4 ^ k)))))

      hard : (p : ℕ) → r ≡ suc p → 2 ^ 52 ≤ p → (r * 2 ^ k + m * 2 ^ j) * (r * 2 ^ k + m * 2 ^ j) < 4 * (a * 4 ^ k)
      hard p e b =
          lt_of_le_of_lt (mul-le-mul tight tight)
          (subst (λ (x : ℕ). (2 * p + 1) * 2 ^ k * ((2 * p + 1) * 2 ^ k) < x) (mul_assoc 4 a (4 ^ k)) (lt_of_le_of_lt (le_of_eq (squared (2 * p + 1))) (mul-lt-mul_of_pos_right (down_to p e) four_pos)))
        where
          parts : (p : ℕ) → r ≡ suc p → r + p ≡ 2 * p + 1
          parts p e = omega arith

          more : (x y z : ℕ) → y ≤ z → x + y ≤ x + z
          more x y z h = omega arith

          tight : r * 2 ^ k + m * 2 ^ j ≤ (2 * p + 1) * 2 ^ k
          tight = le_trans (more (r * 2 ^ k) (m * 2 ^ j) (p * 2 ^ k) (last r k m j least few p e b h)) (le_of_eq (sym (add-mul r p (2 ^ k)) ∙ ap (λ (x : ℕ). x * 2 ^ k) (parts p e)))

      go : Dec (r * r ≤ a) → (r * 2 ^ k + m * 2 ^ j) * (r * 2 ^ k + m * 2 ^ j) < 4 * (a * 4 ^ k)
      go (yes l) = easy l
      go (no f) = hard (r - 1) (omega (arith, least)) (over r (sq_lt_back (2 ^ 52) r (lt_of_le_of_lt lo (lt_of_not-le f))))
        where
          over : (r : ℕ) → 2 ^ 52 < r → 2 ^ 52 ≤ r - 1
          over r h = omega arith

-- ---- from units to fractions: X / (U * U) is a / b, R / U is c / d and Y / U is f / g
module _ (a b c d f g X R Y : ℕ) (B : 0 < b) (D : 0 < d) (G : 0 < g) (x : a * (U * U) ≡ X * b) (r : c * U ≡ R * d) (y : f * U ≡ Y * g) where
  sum_is : (c * g + f * d) * U ≡ (R + Y) * (d * g)
  sum_is =
      add-mul (c * g) (f * d) U
      ∙ ap (λ (z : ℕ). z + f * d * U) (mul_right_comm c g U ∙ ap (λ (z : ℕ). z * g) r ∙ mul_assoc R d g)
      ∙ ap (λ (z : ℕ). R * (d * g) + z) (mul_right_comm f d U ∙ ap (λ (z : ℕ). z * d) y ∙ mul_assoc Y g d ∙ ap (λ (z : ℕ). Y * z) (mul_comm g d))
      ∙ sym (add-mul R Y (d * g))

  abbrev scale : ℕ
  scale = d * g * (d * g) * b

  left_is : 4 * a * (d * g * (d * g)) * (U * U) ≡ 4 * X * scale
  left_is =
      mul_right_comm (4 * a) (d * g * (d * g)) (U * U)
      ∙ ap (λ (z : ℕ). z * (d * g * (d * g))) (mul_assoc 4 a (U * U) ∙ ap (λ (z : ℕ). 4 * z) x ∙ sym (mul_assoc 4 X b))
      ∙ mul_right_comm (4 * X) b (d * g * (d * g))
      ∙ mul_assoc (4 * X) (d * g * (d * g)) b

  right_is : (c * g + f * d) * (c * g + f * d) * b * (U * U) ≡ (R + Y) * (R + Y) * scale
  right_is =
      mul_right_comm ((c * g + f * d) * (c * g + f * d)) b (U * U)
      ∙ ap (λ (z : ℕ). z * b) (mul-mul-mul_comm (c * g + f * d) (c * g + f * d) U U ∙ ap (λ (z : ℕ). z * z) sum_is ∙ mul-mul-mul_comm (R + Y) (d * g) (R + Y) (d * g))
      ∙ mul_assoc ((R + Y) * (R + Y)) (d * g * (d * g)) b

  scale_pos : 0 < scale
  scale_pos = mul-pos (mul-pos (mul-pos D G) (mul-pos D G)) B

  to_above : 4 * X < (R + Y) * (R + Y) → 4 * a * (d * g * (d * g)) < (c * g + f * d) * (c * g + f * d) * b
  to_above h = lt_of_mul-lt-mul_right (U * U) (subst (λ (z : ℕ). z < (c * g + f * d) * (c * g + f * d) * b * (U * U)) (sym left_is) (subst (λ (z : ℕ). 4 * X * scale < z) (sym right_is) (mul-lt-mul_of_pos_right h scale_pos)))

  to_below : (R + Y) * (R + Y) < 4 * X → (c * g + f * d) * (c * g + f * d) * b < 4 * a * (d * g * (d * g))
  to_below h = lt_of_mul-lt-mul_right (U * U) (subst (λ (z : ℕ). z < 4 * a * (d * g * (d * g)) * (U * U)) (sym right_is) (subst (λ (z : ℕ). (R + Y) * (R + Y) * scale < z) (sym left_is) (mul-lt-mul_of_pos_right h scale_pos)))

  -- and the order of R and Y
  order_is : (c * g) * U ≡ R * (d * g)
  order_is = mul_right_comm c g U ∙ ap (λ (z : ℕ). z * g) r ∙ mul_assoc R d g

  order_is' : (f * d) * U ≡ Y * (d * g)
  order_is' = mul_right_comm f d U ∙ ap (λ (z : ℕ). z * d) y ∙ mul_assoc Y g d ∙ ap (λ (z : ℕ). Y * z) (mul_comm g d)

  order_up : c * g < f * d → R < Y
  order_up h = lt_of_mul-lt-mul_right (d * g) (subst (λ (z : ℕ). z < Y * (d * g)) order_is (subst (λ (z : ℕ). c * g * U < z) order_is' (mul-lt-mul_of_pos_right h (pow_pos 1074))))

  order_down : f * d < c * g → Y < R
  order_down h = lt_of_mul-lt-mul_right (d * g) (subst (λ (z : ℕ). z < R * (d * g)) order_is' (subst (λ (z : ℕ). f * d * U < z) order_is (mul-lt-mul_of_pos_right h (pow_pos 1074))))

-- ---- every number has its scale
scaled : (b : ℕ) → 0 < b → b < 2047 * 2 ^ 52 → (m : ℕ) × (e : ℕ) × IsScaled b m e
scaled b p h = go (dec_le (2 ^ 52) b)
  where
    go : Dec (2 ^ 52 ≤ b) → (m : ℕ) × (e : ℕ) × IsScaled b m e
    go (yes l) = (b % 2 ^ 52 + 2 ^ 52, b / 2 ^ 52 + 1073, scaled_high b l h)
    go (no f) = (b * 2 ^ (count_leading_zeros 64 b - 11) % 2 ^ 64, 1074 - (count_leading_zeros 64 b - 11), scaled_low b (count_leading_zeros 64 b) p (lt_of_not-le f) (moved b p (lt_of_not-le f)))

-- ---- the order of two doubles, the first above zero, is that of their fractions
above_cross : (r : Float) (n : ℕ) (d : ℤ) → T (positive r) → T (lt r (fin false n d)) → num r * down d < n * up d * den r
unfolding lt
above_cross nan n d p h = absurd p
above_cross (inf s) n d p h = absurd p
above_cross (fin true m e) n d p h = absurd p
above_cross (fin false m e) n d p h = ltb→lt (m * up e * down d) (n * up d * down e) h

below_cross : (r : Float) (n : ℕ) (d : ℤ) → T (positive r) → T (lt (fin false n d) r) → n * up d * den r < num r * down d
unfolding lt
below_cross nan n d p h = absurd p
below_cross (inf s) n d p h = absurd p
below_cross (fin true m e) n d p h = absurd p
below_cross (fin false m e) n d p h = ltb→lt (n * up d * down e) (m * up e * down d) h

not_below_negative : (r : Float) (n : ℕ) (d : ℤ) → T (positive r) → T (lt r (fin true n d)) → ⊥
unfolding lt
not_below_negative nan n d p h = p
not_below_negative (inf s) n d p h = p
not_below_negative (fin true m e) n d p h = p
not_below_negative (fin false m e) n d p h = h

-- A middle above a / e lies above the middle that is t / (e * g) lower: here a / e is r, for which b * r * r < x.
lower_middle : (a b e g t x : ℕ) → a * a * b < x * (e * e) → 0 < g → (a * g - t) * (a * g - t) * b < x * (e * g * (e * g))
lower_middle a b e g t x h G =
    lt_of_le_of_lt (mul-le-mul_right b (mul-le-mul (less (a * g)) (less (a * g))))
    (subst (λ (z : ℕ). z < x * (e * g * (e * g))) (sym left) (subst (λ (z : ℕ). a * a * b * (g * g) < z) (sym right) (mul-lt-mul_of_pos_right h (mul-pos G G))))
  where
    less : (z : ℕ) → z - t ≤ z
    less z = omega arith

    left : a * g * (a * g) * b ≡ a * a * b * (g * g)
    left = ap (λ (z : ℕ). z * b) (mul-mul-mul_comm a g a g) ∙ mul_right_comm (a * a) (g * g) b

    right : x * (e * g * (e * g)) ≡ x * (e * e) * (g * g)
    right = ap (λ (z : ℕ). x * z) (mul-mul-mul_comm e g e g) ∙ sym (mul_assoc x (e * e) (g * g))

-- ---- the law
module _ (x : Float) (held : T (fits binary64 x)) (above_zero : T (positive x)) (m e : ℕ) (s : IsScaled (to_bits binary64 x) m e) where
  abbrev a : ℕ
  a = n x held above_zero m e s

  abbrev k : ℕ
  k = (e - 52) / 2

  abbrev r : ℕ
  r = nearest_root a 1

  abbrev v : Float
  v = units binary64 false r k

  ge : 2 ^ 52 ≤ r
  ge = result_ge x held above_zero m e s

  le : r ≤ 2 ^ 53
  le = result_le x held above_zero m e s

  top : k ≤ 1533
  top = omega (arith, s.upto)

  is_double : T (fits binary64 v)
  is_double = units_fit r k ge le top

  value : HasValue v false (r * 2 ^ k) U
  value = units_val binary64 false r k (under r k ge le top)

  is_positive : T (positive v)
  is_positive = positive_of_value v (r * 2 ^ k) U value (mul-pos (lt_of_lt_of_le (pow_pos 52) ge) (pow_pos k))

  in_whole : num v * U ≡ r * 2 ^ k * den v
  in_whole = value→cross v (r * 2 ^ k) U value

  near : Close a (lt_of_lt_of_le (pow_pos 104) (n_lo x held above_zero m e s)) r
  near = close a (lt_of_lt_of_le (pow_pos 104) (n_lo x held above_zero m e s))

  -- with a double y * 2 ^ d that is not negative
  module _ (y : ℕ) (d : ℤ) (f : T (fits binary64 (fin false y d))) where
    abbrev u : InUnits (y * up d) (down d)
    u = in_units false y d f

    beside_greater : num v * down d < y * up d * den v → RootBelowMiddle x v (fin false y d)
    beside_greater h =
        to_above (num x) (den x) (num v) (den v) (y * up d) (down d) (a * 4 ^ k) (r * 2 ^ k) (u.0 * 2 ^ u.1) (den_pos x) (den_pos v) (den_pos (fin false y d)) (radicand x held above_zero m e s) in_whole u.3
        (above a r k u.0 u.1 (n_lo x held above_zero m e s) ge u.2 near.0 near.1
        (order_up (num x) (den x) (num v) (den v) (y * up d) (down d) (a * 4 ^ k) (r * 2 ^ k) (u.0 * 2 ^ u.1) (den_pos x) (den_pos v) (den_pos (fin false y d)) (radicand x held above_zero m e s) in_whole u.3 h))

    beside_less : y * up d * den v < num v * down d → RootAboveMiddle x v (fin false y d)
    beside_less h =
        to_below (num x) (den x) (num v) (den v) (y * up d) (down d) (a * 4 ^ k) (r * 2 ^ k) (u.0 * 2 ^ u.1) (den_pos x) (den_pos v) (den_pos (fin false y d)) (radicand x held above_zero m e s) in_whole u.3
        (below a r k u.0 u.1 (n_lo x held above_zero m e s) ge u.2 near.0 near.1
        (order_down (num x) (den x) (num v) (den v) (y * up d) (down d) (a * 4 ^ k) (r * 2 ^ k) (u.0 * 2 ^ u.1) (den_pos x) (den_pos v) (den_pos (fin false y d)) (radicand x held above_zero m e s) in_whole u.3 h))

  greater : (y : Float) → T (fits binary64 y) → T (finite y) → T (lt v y) → RootBelowMiddle x v y
  greater nan f g h = absurd g
  greater (inf t) f g h = absurd g
  greater (fin true n d) f g h = absurd (not_below_negative v n d is_positive h)
  greater (fin false n d) f g h = beside_greater n d f (above_cross v n d is_positive h)

  -- the root is above half of r, and so above every middle that is lower still
  half : num v * num v * den x < 4 * num x * (den v * den v)
  unfolding fits
  half =
      subst (λ (z : ℕ). z * z * den x < 4 * num x * (den v * den v)) (whole (num v) (den v))
      (subst (λ (z : ℕ). (num v * 1 + 0 * 1 * den v) * (num v * 1 + 0 * 1 * den v) * den x < 4 * num x * (z * z)) (mul-one (den v)) (beside_less 0 (pos 0) tt (some (num v) (den v) (value_pos v (num v) (den v) is_positive (den_pos v) (own_value v is_positive)))))
    where
      whole : (c d : ℕ) → c * 1 + 0 * 1 * d ≡ c
      whole c d = omega arith

      some : (c d : ℕ) → 0 < c → 0 * 1 * d < c * 1
      some c d h = omega arith

  less : (y : Float) → T (fits binary64 y) → T (finite y) → T (lt y v) → RootAboveMiddle x v y
  less nan f g h = absurd g
  less (inf t) f g h = absurd g
  less (fin true n d) f g h = lower_middle (num v) (den x) (den v) (down d) (n * up d * den v) (4 * num x) half (down_pos d)
  less (fin false n d) f g h = beside_less n d f (below_cross v n d is_positive h)

pub sqrt_nearest : (x : Float) → T (fits binary64 x) → T (positive x) → NearestRoot x (sqrt x)
sqrt_nearest x held above_zero =
    let z = scaled (to_bits binary64 x) (bits_pos x held above_zero) (bits_finite x held above_zero) in
    rw (root_units x held above_zero z.0 z.1 z.2) (record {
      double = is_double x held above_zero z.0 z.1 z.2;
      above_zero = is_positive x held above_zero z.0 z.1 z.2;
      than_greater = greater x held above_zero z.0 z.1 z.2;
      than_less = less x held above_zero z.0 z.1 z.2;
    })

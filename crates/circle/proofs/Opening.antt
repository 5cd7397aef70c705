-- The cosine and the sine at a fraction of the angle, from the sums of their series. Assumes nothing.
use mathlib.Core.Path.{◌≡◌, refl, sym, ap, ◌∙◌, subst}
use Prim.Native.Nat.{ℕ, suc, ◌+◌, ◌-◌, ◌*◌, ◌^◌, ◌≤◌, ◌<◌}
use native.Mathlib.Nat.{le_trans, le_of_eq, le_of_lt, add-le-add, mul-add, add-mul, mul_comm, mul_assoc, mul_left_comm, mul_right_comm, mul-le-mul, mul-le-mul_left, mul-le-mul_right, le_of_mul-le-mul_right, mul-suc, one-mul, zero-mul}
use native.Mathlib.Omega.{arith}
use lib.Dec.{leb→le}
use lib.Pow.{pow_pos}
use Rattle.circle.specs.Series.{east, north, west, south, part}
use Rattle.circle.specs.Inside.Fixed.{IsHigh, Apart}
use Rattle.circle.specs.Inside.Horner.{IsHorner, IsRoot, Alternating}
use Rattle.circle.specs.Inside.Circle.{IsCosineSum, IsFirst}
use Rattle.circle.proofs.Signed.{apart_wider}
use Rattle.circle.proofs.Alternate.{rooted, from_zero, from_one}

-- ---- what the last two steps of the cosine's sum take from 1
pub taken_of : (q g4 g2 r : ℕ) → g4 ≤ 2 ^ 63 → IsHorner g4 q 12 g2 → (i : IsHorner g2 q 2 r) → Alternating 10 q 0 7 12 r → IsCosineSum q r
taken_of q g4 g2 r small i j sum = record {
  sum = sum;
  taken = j.taken;
  whole = j.whole;
  most = le_of_mul-le-mul_right {k = 2 ^ 63} (le_trans j.low (le_trans (mul-le-mul_right q (under g2 i.taken i.whole)) (le_of_eq (mul_comm (2 ^ 63) q)))) (pow_pos 63);
  least = all (2 ^ 63) q j.taken i.taken g2 i.whole j.high few;
}
  where
    under : (r h : ℕ) → r + h ≡ 2 ^ 63 → r ≤ 2 ^ 63
    under r h w = omega arith

    few : i.taken * 12 ≤ q
    few = le_of_mul-le-mul_right {k = 2 ^ 63} (le_trans i.low (le_trans (mul-le-mul_right q small) (le_of_eq (mul_comm (2 ^ 63) q)))) (pow_pos 63)

    all : (G q T S g : ℕ) → g + S ≡ G → g * q ≤ (T * 2 + 2 + 3) * G → S * 12 ≤ q → 12 * (q * G) ≤ 24 * (T * G) + q * q + 60 * G
    all G q T S g w h f = go (q * G) (g * q) (S * q) (T * G) (q * q) G (ap (λ (x : ℕ). q * x) (sym w) ∙ mul_comm q (g + S) ∙ add-mul g S q) (le_trans h (le_of_eq (spread T))) (le_trans (le_of_eq (mul_right_comm S q 12)) (mul-le-mul_right q f))
      where
        spread : (T : ℕ) → (T * 2 + 2 + 3) * G ≡ 2 * (T * G) + 5 * G
        spread T = add-mul (T * 2 + 2) 3 G ∙ ap (λ (x : ℕ). x + 3 * G) (add-mul (T * 2) 2 G) ∙ ap (λ (x : ℕ). x + 2 * G + 3 * G) (ap (λ (x : ℕ). x * G) (mul_comm T 2) ∙ mul_assoc 2 T G) ∙ close (2 * (T * G))
          where
            close : (x : ℕ) → x + 2 * G + 3 * G ≡ x + 5 * G
            close x = omega arith

        go : (a b c t s G : ℕ) → a ≡ b + c → b ≤ 2 * t + 5 * G → c * 12 ≤ s → 12 * a ≤ 24 * t + s + 60 * G
        go a b c t s G e h k = omega (arith, e, h, k)

-- ---- the sine, from the sum over the argument
-- U and v are the first two terms, so that v / U is α / β, of which y is the whole part in units of 1 / G
sine_of : (G U v α β y s g E W : ℕ) → 0 < G → 0 < β → β * v ≡ α * U → y * β ≤ α * G → α * G ≤ suc y * β → α * 10 ≤ β → s * G ≤ y * g → y * g ≤ (s + 4) * G → g ≤ G
    → Apart (g * v) (0 * v) (E * G) (W * G) (30 * v) → Apart (s * U) (0 * U) (E * G) (W * G) (16 * U)
sine_of G U v α β y s g E W G0 B law lo hi tenth low high small a = go (s * U) (g * v) U v (E * G) (W * G) (0 * U) (0 * v) (zero-mul U) (zero-mul v) under (le_trans over (le_of_eq (add-mul s 5 U))) less a
  where
    same : α * G * U ≡ G * v * β
    same = turn ∙ ap (λ (x : ℕ). G * x) (sym law) ∙ back
      where
        turn : α * G * U ≡ G * (α * U)
        turn = simp (mul_assoc, mul_comm)

        back : G * (β * v) ≡ G * v * β
        back = simp (mul_assoc, mul_comm)

    -- y ≤ G * v / U ≤ y + 1, and v is at most a tenth of U
    first : y * U ≤ G * v
    first = le_of_mul-le-mul_right {k = β} (le_trans (le_of_eq (mul_right_comm y U β)) (le_trans (mul-le-mul_right U lo) (le_of_eq same))) B

    second : G * v ≤ suc y * U
    second = le_of_mul-le-mul_right {k = β} (le_trans (le_of_eq (sym same)) (le_trans (mul-le-mul_right U hi) (le_of_eq (mul_right_comm (suc y) β U)))) B

    less : v * 10 ≤ U
    less = le_of_mul-le-mul_right {k = β} (le_trans (le_of_eq (one ∙ ap (λ (x : ℕ). x * 10) law ∙ mul_right_comm α U 10)) (le_trans (mul-le-mul_right U tenth) (le_of_eq (mul_comm β U)))) B
      where
        one : v * 10 * β ≡ β * v * 10
        one = simp (mul_assoc, mul_comm, mul_left_comm)

    under : s * U ≤ g * v
    under = le_of_mul-le-mul_right {k = G} (le_trans (le_of_eq (mul_right_comm s U G)) (le_trans (mul-le-mul_right U low) (le_trans (le_of_eq one) (le_trans (mul-le-mul_left g first) (le_of_eq two))))) G0
      where
        one : y * g * U ≡ g * (y * U)
        one = simp (mul_assoc, mul_comm, mul_left_comm)

        two : g * (G * v) ≡ g * v * G
        two = simp (mul_assoc, mul_comm, mul_left_comm)

    over : g * v ≤ (s + 5) * U
    over = le_of_mul-le-mul_right {k = G} (le_trans (le_of_eq two) (le_trans (mul-le-mul_left g second) (le_trans (le_of_eq (sym (mul_assoc g (suc y) U))) (le_trans (mul-le-mul_right U room) (le_of_eq (mul_right_comm (s + 5) G U)))))) G0
      where
        two : g * v * G ≡ g * (G * v)
        two = simp (mul_assoc, mul_comm, mul_left_comm)

        room : g * suc y ≤ (s + 5) * G
        room = le_trans (le_of_eq (mul-suc g y ∙ ap (λ (x : ℕ). x + g) (mul_comm g y))) (le_trans (add-le-add high small) (le_of_eq (sym (ap (λ (x : ℕ). x * G) (count s) ∙ add-mul (s + 4) 1 G ∙ ap (λ (x : ℕ). (s + 4) * G + x) (one-mul G)))))
          where
            count : (s : ℕ) → s + 5 ≡ s + 4 + 1
            count s = omega arith

    go : (x y U v p q z w : ℕ) → z ≡ 0 → w ≡ 0 → x ≤ y → y ≤ x + 5 * U → v * 10 ≤ U → Apart y w p q (30 * v) → Apart x z p q (16 * U)
    go x y U v p q z w e f l h k a = record { under = omega (arith, e, f, l, h, k, a.under, a.over); over = omega (arith, e, f, l, h, k, a.under, a.over) }

-- ---- the sum of the squares
size_of : (G q y c T s : ℕ) → c + T ≡ G → T * 2 ≤ q → 12 * (q * G) ≤ 24 * (T * G) + q * q + 60 * G → s ≤ y → y * y ≤ (q + 4) * G → 4 * (q * q) + 108 * G ≤ 12 * 2 ^ 112 → c * c + s * s ≤ G * G + 2 ^ 112
size_of G q y c T s whole half least small square few =
    go (c * c) (s * s) (T * G) (G * G) (T * T) (q * G) (q * q) G squares (le_trans (mul-le-mul small small) (le_trans square (le_of_eq (add-mul q 4 G)))) least (le_trans (le_of_eq (sym (four T))) (mul-le-mul half half)) few
  where
    four : (T : ℕ) → T * 2 * (T * 2) ≡ 4 * (T * T)
    four T = one (T * 2) ∙ two (T * T) ∙ refl
      where
        one : (x : ℕ) → x * (T * 2) ≡ 2 * (T * x)
        one x = simp (mul_comm, mul_left_comm)

        two : (x : ℕ) → 2 * (T * (T * 2)) ≡ 4 * (T * T)
        two x = ap (λ (z : ℕ). 2 * z) (sym (mul_assoc T T 2)) ∙ close (T * T)
          where
            close : (x : ℕ) → 2 * (x * 2) ≡ 4 * x
            close x = omega arith

    -- c = G - T
    squares : c * c + 2 * (T * G) ≡ G * G + T * T
    squares = subst (λ (z : ℕ). c * c + 2 * (T * z) ≡ z * z + T * T) whole (rw (mul-add T c T, add-mul c T (c + T), mul-add c c T, mul-add T c T, mul_comm T c) (close (c * c) (c * T) (T * T)))
      where
        close : (a b d : ℕ) → a + 2 * (b + d) ≡ a + b + (b + d) + d
        close a b d = omega arith

    go : (x s t g tt qG qq G : ℕ) → x + 2 * t ≡ g + tt → s ≤ qG + 4 * G → 12 * qG ≤ 24 * t + qq + 60 * G → 4 * tt ≤ qq → 4 * qq + 108 * G ≤ 12 * 2 ^ 112 → x + s ≤ g + 2 ^ 112
    go x s t g tt qG qq G h k m n o = omega (arith, h, k, m, n, o)

-- q is the upper half of the square of a y of at most 200 * 2 ^ 52
square_most : (y q : ℕ) → y ≤ 200 * 2 ^ 52 → q * 2 ^ 63 ≤ y * y → q ≤ 40000 * 2 ^ 41
square_most y q h i = le_of_mul-le-mul_right {k = 2 ^ 63} (le_trans i (le_trans (mul-le-mul h h) (leb→le (200 * 2 ^ 52 * (200 * 2 ^ 52)) (40000 * 2 ^ 41 * 2 ^ 63) tt))) (pow_pos 63)

squares_most : (q : ℕ) → q ≤ 40000 * 2 ^ 41 → 4 * (q * q) + 108 * 2 ^ 63 ≤ 12 * 2 ^ 112
squares_most q h = go (q * q) (mul-le-mul h h)
  where
    go : (x : ℕ) → x ≤ 40000 * 2 ^ 41 * (40000 * 2 ^ 41) → 4 * x + 108 * 2 ^ 63 ≤ 12 * 2 ^ 112
    go x h = omega (arith, h)

-- ---- both together
pub first_is : (y q c g s : ℕ) → y ≤ 200 * 2 ^ 52 → IsHigh y y q → IsCosineSum q c → Alternating 10 q 1 30 10 g → IsHigh y g s → IsFirst y c s
first_is y q c g s h sq cs t i = record {
  near = λ u α β M N B law U lo hi l m.
      let tenth = tenth_of α β hi in
      let root = rooted (2 ^ 63) α β y q (pow_pos 63) (below y h) lo hi sq.low (le_of_lt sq.high) in
      let r : IsRoot α β q = record { low = root.0; high = root.1 } in
      record {
        cosine = rw (from_zero u N east, from_zero u N west) (apart_wider (cs.sum.near u α β M N B tenth law r l (same N M m)) (wide (u 0)));
        sine =
            subst (λ (n : ℕ). Apart (s * u 0) (0 * u 0) (part u n north * 2 ^ 63) (part u n south * 2 ^ 63) (16 * u 0)) (back N l)
            (rw (from_one u (N - 1) north refl, from_one u (N - 1) south refl)
            (sine_of (2 ^ 63) (u 0) (u 1) α β y s g (part (λ (j : ℕ). u (1 + j)) (N - 1) east) (part (λ (j : ℕ). u (1 + j)) (N - 1) west) (pow_pos 63) B (one β (u 1) (α * u 0) (law 0 (some N M l m))) lo hi tenth i.low (le_of_lt i.high) t.most
            (t.near u α β M (N - 1) B tenth law r (enough N l) (fits N M l m))));
      };
  size = size_of (2 ^ 63) q y c cs.taken s cs.whole cs.most cs.least small (le_of_lt sq.high) (squares_most q (square_most y q h sq.low));
}
  where
    below : (y : ℕ) → y ≤ 200 * 2 ^ 52 → y < 2 ^ 63
    below y h = omega arith

    tenth_of : (α β : ℕ) → α * 2 ^ 63 ≤ suc y * β → α * 10 ≤ β
    tenth_of α β hi = le_of_mul-le-mul_right {k = 2 ^ 63} (le_trans (le_of_eq (mul_right_comm α 10 (2 ^ 63))) (le_trans (mul-le-mul_right 10 hi) (le_trans (le_of_eq (mul_right_comm (suc y) β 10)) (le_trans (mul-le-mul_right β (room y h)) (le_of_eq (mul_comm (2 ^ 63) β)))))) (pow_pos 63)
      where
        room : (y : ℕ) → y ≤ 200 * 2 ^ 52 → suc y * 10 ≤ 2 ^ 63
        room y h = omega arith

    wide : (x : ℕ) → 7 * x ≤ 16 * x
    wide x = omega arith

    same : (N M : ℕ) → N ≤ M → 0 + N ≤ M
    same N M l = omega arith

    back : (N : ℕ) → 12 ≤ N → suc (N - 1) ≡ N
    back N l = omega arith

    one : (x v z : ℕ) → x * (1 * v) ≡ z → x * v ≡ z
    one x v z e = sym (ap (λ (y : ℕ). x * y) (one-mul v)) ∙ e

    some : (N M : ℕ) → 12 ≤ N → N ≤ M → 0 < M
    some N M l m = omega arith

    enough : (N : ℕ) → 12 ≤ N → 10 ≤ N - 1
    enough N l = omega arith

    fits : (N M : ℕ) → 12 ≤ N → N ≤ M → 1 + (N - 1) ≤ M
    fits N M l m = omega arith

    small : s ≤ y
    small = le_of_mul-le-mul_right {k = 2 ^ 63} (le_trans i.low (mul-le-mul_left y t.most)) (pow_pos 63)

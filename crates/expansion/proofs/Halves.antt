-- Halves of n − m as whole numbers: w is the whole part of (n − m)/2. Document 01's H = (n − m)/2 + c is below 175; since rounding keeps the order, so are w + c and w plus the whole part of c, and the latter is at most the whole part of H.
-- Assumes nothing.
use Prim.Native.Nat.{ℕ, ◌+◌, ◌-◌, ◌*◌, ◌/◌, ◌^◌, ◌<◌, ◌≤◌, min}
use mathlib.Core.Path.{◌≡◌, refl, sym, ap, subst, ◌∙◌}
use mathlib.Core.Bool.{Bool, true, false, ◌&&◌, ◌||◌}
use native.Mathlib.Omega.{arith}
use native.Mathlib.Nat.{le_of_eq, lt_of_le_of_lt, lt_of_lt_of_le, zero-mul, mul-one, mul_comm, mul_assoc, mul_left_comm, mul_right_comm, add-mul, add-zero, sub-zero, mul-pos, mul-le-mul_right, mul-lt-mul_of_pos_right, lt_of_mul-lt-mul_right, le_trans, div-mul-le_self, le-div_iff_mul-le, le_of_mul-le-mul_right}
use borrow.Author.Tests.{ltb-true, ltb-false, lt-ltb, le-ltb}
use lib.Dec.{T, ltb, eqb, ltb→lt, eqb→eq}
use lib.Pow.{shl_lt, pow_mono}
use lib.IntN.{ℤ}
use lib.Ieee.{Float, nan, inf, fin, binary64, up, down, round, sum, add, div, lt, le, eq, of_int, of_bits, to_unsigned}
use lib.Ieee.Back.{round_whole}
use lib.Ieee.Exact.{HasValue, round_exact}
use lib.Ieee.Fits.{down_pos}
use lib.Ieee.Order.{round_mono, transfer}
use lib.Ieee.Scale.{round_same}
use Rattle.arith.specs.Double.{◌⊕◌, ◌⊘◌, dbl, #0, #2}
use Rattle.arith.specs.Truncation.{whole_part}
use Rattle.arith.proofs.Flags.{not_taken, not_left}
use Rattle.arith.proofs.Unsigned.{Unsigned, dbl_unsigned, sum_unsigned}
use Rattle.expansion.specs.Terms.{h_of, #175}

-- ---- a sum of two doubles that are not below zero is one rounded fraction, -0 included
sum_is : (m : ℕ) (e : ℤ) (s : Bool) (n : ℕ) (d : ℤ) → lt (fin s n d) #0 ≡ false → fin false m e ⊕ fin s n d ≡ round binary64 false (m * up e * down d + n * up d * down e) (down e * down d)
unfolding add sum lt of_bits
sum_is m e false n d h = refl
sum_is m e true n d h = rw (none, le-ltb (m * up e * down d) 0 (omega arith), sub-zero (m * up e * down d), add-zero (m * up e * down d))
  where
    zero_left : (x z : ℕ) → x * 1 + z ≤ 0 → x ≡ 0
    zero_left x z h = omega arith

    none : n * up d * down e ≡ 0
    none = ap (λ (x : ℕ). x * down e) (zero_left (n * up d) (0 * 1 * down d) (ltb-false 0 (n * up d * 1 + 0 * 1 * down d) h)) ∙ zero-mul (down e)

-- a / p + n / d and b / q + n / d, in the order of a / p and b / q
cross : (a p b q n d : ℕ) → a * q ≤ b * p → (a * d + n * p) * (q * d) ≤ (b * d + n * q) * (p * d)
cross a p b q n d h =
    let l : (a * d + n * p) * (q * d) ≡ a * q * (d * d) + n * (p * q * d) = simp (add-mul, mul_assoc, mul_comm, mul_left_comm) refl in
    let r : (b * d + n * q) * (p * d) ≡ b * p * (d * d) + n * (p * q * d) = simp (add-mul, mul_assoc, mul_comm, mul_left_comm) refl in
    rw (l, r) (more (a * q * (d * d)) (b * p * (d * d)) (n * (p * q * d)) (mul-le-mul_right (d * d) h))
  where
    more : (x y z : ℕ) → x ≤ y → x + z ≤ y + z
    more x y z h = omega arith

-- ---- what is at most a number below 175 is below 175
at_most : (a b : ℕ) (t : Bool) → T (ltb a b || (eqb a b && t)) → a ≤ b
at_most a b t = go (ltb a b) (eqb a b) (ltb→lt a b) (eqb→eq a b)
  where
    go : (x y : Bool) → (T x → a < b) → (T y → a ≡ b) → T (x || (y && t)) → a ≤ b
    go true y f g h = let l = f tt in omega arith
    go false true f g h = le_of_eq (g tt)
    go false false f g h = absurd h

below_then : (a p b q n d : ℕ) → 0 < p → 0 < q → a * q ≤ b * p → b * d < n * q → a * d < n * p
below_then a p b q n d P Q h k =
    lt_of_mul-lt-mul_right q
    (lt_of_le_of_lt (le_of_eq (mul_right_comm a d q))
    (lt_of_le_of_lt (mul-le-mul_right d h)
    (lt_of_le_of_lt (le_of_eq (mul_right_comm b p d))
    (lt_of_lt_of_le (mul-lt-mul_of_pos_right k P) (le_of_eq (mul_right_comm n q p))))))

still_below : (x y : Float) → Unsigned x → Unsigned y → T (le x y) → lt y #175 ≡ true → lt x #175 ≡ true
unfolding le lt eq of_bits
still_below nan y u v h k = absurd h
still_below (inf true) y u v h k = not_left u
still_below (inf false) nan u v h k = absurd h
still_below (inf false) (inf true) u v h k = not_left v
still_below (inf false) (inf false) u v h k = not_taken k
still_below (inf false) (fin t n d) u v h k = absurd h
still_below (fin true m e) y u v h k = not_left u
still_below (fin false m e) nan u v h k = absurd h
still_below (fin false m e) (inf true) u v h k = not_left v
still_below (fin false m e) (inf false) u v h k = not_taken k
still_below (fin false m e) (fin true n d) u v h k = not_left v
still_below (fin false m e) (fin false n d) u v h k =
    lt-ltb (m * up e * 1) (175 * down e)
    (below_then (m * up e) (down e) (n * up d) (down d) 175 1 (down_pos e) (down_pos d) (at_most (m * up e * down d) (n * up d * down e) true h) (ltb-true (n * up d * 1) (175 * down d) k))

-- ---- x at most y: x + c is below 175 where y + c is
smaller_sum : (x y c : Float) (a b : ℕ) → HasValue x false a 1 → HasValue y false b 2 → a * 2 ≤ b → lt c #0 ≡ false → lt (y ⊕ c) #175 ≡ true → lt (x ⊕ c) #175 ≡ true
unfolding add lt of_bits
smaller_sum nan y c a b p q h z k = absurd p
smaller_sum (inf s) y c a b p q h z k = absurd p
smaller_sum (fin true m e) y c a b p q h z k = not_left p.0
smaller_sum (fin false m e) nan c a b p q h z k = absurd q
smaller_sum (fin false m e) (inf t) c a b p q h z k = absurd q
smaller_sum (fin false m e) (fin true n d) c a b p q h z k = not_left q.0
smaller_sum (fin false m e) (fin false n d) nan a b p q h z k = not_taken k
smaller_sum (fin false m e) (fin false n d) (inf true) a b p q h z k = not_left z
smaller_sum (fin false m e) (fin false n d) (inf false) a b p q h z k = not_taken k
smaller_sum (fin false m e) (fin false n d) (fin s i g) a b p q h z k =
    still_below (fin false m e ⊕ fin s i g) (fin false n d ⊕ fin s i g) (sum_unsigned (fin false m e) (fin s i g) refl z) (sum_unsigned (fin false n d) (fin s i g) refl z)
    (rw (sum_is m e s i g z, sum_is n d s i g z)
    (round_mono binary64 _ (down e * down g) _ (down d * down g) (mul-pos (down_pos e) (down_pos g)) (mul-pos (down_pos d) (down_pos g))
    (cross (m * up e) (down e) (n * up d) (down d) (i * up g) (down g) (transfer (m * up e) (n * up d) (down e) (down d) a b 1 2 (omega arith) (omega arith) p.1 q.1 (omega arith)))))
    k

-- ---- half of a whole number is exact
half_value : (n : ℕ) → n < 2 ^ 53 → HasValue (dbl n ⊘ #2) false n 2
unfolding of_int div of_bits
half_value n h = go (round binary64 false n 1) (round_whole binary64 false n (omega arith))
  where
    exact : HasValue (round binary64 false n 2) false n 2
    exact = round_exact binary64 false n 2 n 1073 (omega arith) h (lt_of_lt_of_le (shl_lt 53 1073 h) (pow_mono {i = 1126} {j = 2098} (omega arith))) (sym (mul_assoc n (2 ^ 1073) 2))

    double : (u d : ℕ) → u * 1 ≡ n * d → u * 1 * 2 ≡ n * (2 * d)
    double u d e = ap (λ (z : ℕ). z * 2) e ∙ mul_assoc n d 2 ∙ ap (λ (z : ℕ). n * z) (mul_comm d 2)

    go : (x : Float) → HasValue x false n 1 → HasValue (x ⊘ #2) false n 2
    go nan p = absurd p
    go (inf s) p = absurd p
    go (fin true m e) p = not_left p.0
    go (fin false m e) p =
        subst (λ (x : Float). HasValue x false n 2) (sym (round_same binary64 false (m * up e * 1) (2 * down e) n 2 (mul-pos (omega arith) (down_pos e)) (omega arith) (double (m * up e) (down e) p.1))) exact

-- ---- w + c is below 175
pub half_below : (offset : ℕ) (c : Float) → offset < 200 → lt c #0 ≡ false → lt (h_of offset c) #175 ≡ true → lt (dbl (offset / 2) ⊕ c) #175 ≡ true
unfolding of_int
half_below offset c o p q = smaller_sum (dbl (offset / 2)) (dbl offset ⊘ #2) c (offset / 2) offset (round_whole binary64 false (offset / 2) (omega arith)) (half_value offset (omega arith)) (omega arith) p q

-- ---- so is w plus the whole part of c
number_below : (x : Float) (n : ℕ) → HasValue x false n 1 → lt x #175 ≡ true → n < 175
unfolding lt of_bits
number_below nan n v h = absurd v
number_below (inf s) n v h = absurd v
number_below (fin true m e) n v h = not_left v.0
number_below (fin false m e) n v h = lt_of_mul-lt-mul_right (down e) (subst (λ (z : ℕ). z < 175 * down e) v.1 (ltb-true (m * up e * 1) (175 * down e) h))

order : (w t e g m i : ℕ) → m * 1 ≡ w * e → t * g ≤ i → (w + t) * (e * g) ≤ (m * g + i * e) * 1
order w t e g m i h k =
    let l : (w + t) * (e * g) ≡ w * e * g + t * g * e = simp (add-mul, mul_assoc, mul_comm, mul_left_comm) refl in
    rw (l, ← h, mul-one m, mul-one (m * g + i * e)) (more (m * g) (t * g * e) (i * e) (mul-le-mul_right e k))
  where
    more : (a b c : ℕ) → b ≤ c → a + b ≤ a + c
    more a b c h = omega arith

part_below : (x c : Float) (w : ℕ) → HasValue x false w 1 → lt c #0 ≡ false → lt (x ⊕ c) #175 ≡ true → w + whole_part c < 175
unfolding add lt of_bits to_unsigned of_int
part_below nan c w p z k = absurd p
part_below (inf s) c w p z k = absurd p
part_below (fin true m e) c w p z k = not_left p.0
part_below (fin false m e) nan w p z k = not_taken k
part_below (fin false m e) (inf true) w p z k = not_left z
part_below (fin false m e) (inf false) w p z k = not_taken k
part_below (fin false m e) (fin s i g) w p z k = cut s
  where
    t : ℕ
    t = i * up g / down g

    -- the lesser of w + t and 175 is a double, and it is no more than the sum
    n : ℕ
    n = min (w + t) 175

    fewer : n ≤ w + t
    fewer = omega arith

    few : n ≤ 2 ^ 53
    few = omega arith

    ordered : n * (down e * down g) ≤ (m * up e * down g + i * up g * down e) * 1
    ordered = le_trans (mul-le-mul_right (down e * down g) fewer) (order w t (down e) (down g) (m * up e) (i * up g) p.1 (div-mul-le_self (i * up g) (down g)))

    below : n < 175
    below =
        number_below (dbl n) n (round_whole binary64 false n few)
        (still_below (dbl n) (fin false m e ⊕ fin s i g) (dbl_unsigned n) (sum_unsigned (fin false m e) (fin s i g) refl z)
        (rw (sum_is m e s i g z) (round_mono binary64 n 1 (m * up e * down g + i * up g * down e) (down e * down g) (omega arith) (mul-pos (down_pos e) (down_pos g)) ordered)) k)

    small : w + t < 175
    small = let h = below in omega (arith, h)

    cut : (s : Bool) → w + whole_part (fin s i g) < 175
    cut false = let h = small in omega (arith, h)
    cut true = let h = small in omega (arith, h)

pub whole_and_part : (offset : ℕ) (c : Float) → offset < 200 → lt c #0 ≡ false → lt (h_of offset c) #175 ≡ true → offset / 2 + whole_part c < 175
unfolding of_int
whole_and_part offset c o p q = part_below (dbl (offset / 2)) c (offset / 2) (round_whole binary64 false (offset / 2) (omega arith)) p (half_below offset c o p q)

-- ---- and it is at most the whole part of H
number_most : (x y : Float) (n : ℕ) → HasValue x false n 1 → n < 175 → Unsigned y → T (le x y) → n ≤ whole_part y
unfolding le lt eq to_unsigned
number_most nan y n v few u h = absurd v
number_most (inf s) y n v few u h = absurd v
number_most (fin true m e) y n v few u h = not_left v.0
number_most (fin false m e) nan n v few u h = absurd h
number_most (fin false m e) (inf true) n v few u h = not_left u
number_most (fin false m e) (inf false) n v few u h = omega arith
number_most (fin false m e) (fin true k d) n v few u h = not_left u
number_most (fin false m e) (fin false k d) n v few u h = least (k * up d / down d) ((le-div_iff_mul-le (down_pos d)).1 (le_of_mul-le-mul_right {k = down e} down_more (down_pos e)))
  where
    least : (c : ℕ) → n ≤ c → n ≤ min c (2 ^ 31 - 1)
    least c l = omega arith

    down_more : n * down d * down e ≤ k * up d * down e
    down_more = le_trans (le_of_eq (mul_right_comm n (down d) (down e) ∙ ap (λ (z : ℕ). z * down d) (sym v.1 ∙ mul-one (m * up e)))) (at_most (m * up e * down d) (k * up d * down e) true h)

half_order : (w t b e g m i : ℕ) → m * 2 ≡ b * e → w * 2 ≤ b → t * g ≤ i → (w + t) * (e * g) ≤ (m * g + i * e) * 1
half_order w t b e g m i h l k =
    let r : (w + t) * (e * g) ≡ w * e * g + t * g * e = simp (add-mul, mul_assoc, mul_comm) refl in
    rw (r, mul-one (m * g + i * e)) (both (w * e * g) (m * g) (t * g * e) (i * e) (mul-le-mul_right g (half (w * e) m (le_trans (le_of_eq (mul_right_comm w e 2)) (le_trans (mul-le-mul_right e l) (le_of_eq (sym h)))))) (mul-le-mul_right e k))
  where
    half : (a c : ℕ) → a * 2 ≤ c * 2 → a ≤ c
    half a c h = omega arith

    both : (a b c d : ℕ) → a ≤ b → c ≤ d → a + c ≤ b + d
    both a b c d h k = omega arith

sum_most : (x c : Float) (b w : ℕ) → HasValue x false b 2 → w * 2 ≤ b → lt c #0 ≡ false → w + whole_part c < 175 → lt (x ⊕ c) #175 ≡ true → w + whole_part c ≤ whole_part (x ⊕ c)
unfolding add lt of_bits to_unsigned of_int
sum_most nan c b w v h z few k = absurd v
sum_most (inf s) c b w v h z few k = absurd v
sum_most (fin true m e) c b w v h z few k = not_left v.0
sum_most (fin false m e) nan b w v h z few k = not_taken k
sum_most (fin false m e) (inf true) b w v h z few k = not_left z
sum_most (fin false m e) (inf false) b w v h z few k = not_taken k
sum_most (fin false m e) (fin s i g) b w v h z few k =
    number_most (dbl n) (fin false m e ⊕ fin s i g) n (round_whole binary64 false n (omega arith)) few (sum_unsigned (fin false m e) (fin s i g) refl z)
    (rw (sum_is m e s i g z) (round_mono binary64 n 1 (m * up e * down g + i * up g * down e) (down e * down g) (omega arith) (mul-pos (down_pos e) (down_pos g)) ordered))
  where
    n : ℕ
    n = w + whole_part (fin s i g)

    cut : (s : Bool) → whole_part (fin s i g) ≤ i * up g / down g
    cut false = omega arith
    cut true = omega arith

    more : (a b c : ℕ) → b ≤ c → a + b ≤ a + c
    more a b c h = omega arith

    ordered : n * (down e * down g) ≤ (m * up e * down g + i * up g * down e) * 1
    ordered =
        le_trans (mul-le-mul_right (down e * down g) (more w (whole_part (fin s i g)) (i * up g / down g) (cut s)))
        (half_order w (i * up g / down g) b (down e) (down g) (m * up e) (i * up g) v.1 h (div-mul-le_self (i * up g) (down g)))

pub whole_at_most : (offset : ℕ) (c : Float) → offset < 200 → lt c #0 ≡ false → lt (h_of offset c) #175 ≡ true → offset / 2 + whole_part c ≤ whole_part (h_of offset c)
whole_at_most offset c o p q = sum_most (dbl offset ⊘ #2) c offset (offset / 2) (half_value offset (omega arith)) (omega arith) p (whole_and_part offset c o p q) q

-- Whole numbers and their squares: what `floor_root` and `nearest_root` are. Nothing here is about floats. Assumes nothing.
use Rattle.std.proofs.Common.{◌≡◌, ℕ, zero, suc, ◌+◌, ◌-◌, ◌*◌, ◌/◌, ◌^◌, ◌<◌, ◌≤◌, Bool, true, false, cond, not, T, eqb, leb, sym, refl, ap, ◌∙◌, subst, le_trans, le_of_eq, lt_of_lt_of_le, le_of_suc-le-suc, lt_of_le_of_lt, le_of_lt, mul-le-mul_right, suc-mul, mul-le-mul, le_antisymm, pow-suc, lt_of_not-le, mul-one, mul-suc, mul_right_comm, not-le_of_lt, le_of_mul-le-mul_right, div-one, add-one, arith, eqb→eq, leb→le, pow_mono, pow-add}
use Prim.Native.Nat.{compare, Ordering}
use native.Mathlib.Nat.{mul-mul-mul_comm}
use native.Mathlib.Decide.{dec_le}
use lib.Dec.{is_le, compare_is_eq, nleb→lt, eqb_refl}
use lib.Arith.{lt_of_le-ne}
use lib.Ieee.{size, nearest}
use lib.Ieee.Digits.{size-lt}
use lib.Ieee.Nearest.{div_same}
use Rattle.arith.specs.Root.{root_size, extend, root_digits, floor_root, nearest_root}

-- r is the whole part of n's square root
abbrev pub IsRoot : ℕ → ℕ → Type 0
IsRoot n r = (r * r ≤ n) × (n < suc r * suc r)

-- ---- the squares of some sums
pub sq_suc : (r : ℕ) → suc r * suc r ≡ r * r + 2 * r + 1
sq_suc r = suc-mul r (suc r) ∙ ap (λ (x : ℕ). x + suc r) (mul-suc r r) ∙ regroup (r * r)
  where
    regroup : (s : ℕ) → s + r + suc r ≡ s + 2 * r + 1
    regroup s = omega arith

pub sq_double : (r : ℕ) → 2 * r * (2 * r) ≡ 4 * (r * r)
sq_double r = mul-mul-mul_comm 2 r 2 r

pub sq_odd : (r : ℕ) → (2 * r + 1) * (2 * r + 1) ≡ 4 * (r * r) + 4 * r + 1
sq_odd r = ap (λ (x : ℕ). x * x) (add-one (2 * r)) ∙ sq_suc (2 * r) ∙ ap (λ (x : ℕ). x + 2 * (2 * r) + 1) (sq_double r) ∙ regroup (r * r)
  where
    regroup : (s : ℕ) → 4 * s + 2 * (2 * r) + 1 ≡ 4 * s + 4 * r + 1
    regroup s = omega arith

sq_le : {r s : ℕ} → r ≤ s → r * r ≤ s * s
sq_le h = mul-le-mul h h

-- a smaller square is a smaller number's
pub sq_lt_back : (r s : ℕ) → r * r < s * s → r < s
sq_lt_back r s h = lt_of_not-le (λ (g : s ≤ r). not-le_of_lt h (sq_le g))

pub root_unique : (n r s : ℕ) → IsRoot n r → IsRoot n s → r ≡ s
root_unique n r s (a, b) (c, d) = le_antisymm (le_of_suc-le-suc (sq_lt_back r (suc s) (lt_of_le_of_lt a d))) (le_of_suc-le-suc (sq_lt_back s (suc r) (lt_of_le_of_lt c b)))

-- ---- `floor_root` is the whole part of the root
extend_is : (n r : ℕ) → IsRoot (n / 4) r → IsRoot n (extend n (2 * r))
extend_is n r (a, b) = go (leb (suc (2 * r) * suc (2 * r)) n) (leb→le (suc (2 * r) * suc (2 * r)) n) (nleb→lt (suc (2 * r) * suc (2 * r)) n)
  where
    low : 2 * r * (2 * r) ≤ n
    low = le_trans (le_of_eq (sq_double r)) (four (r * r) a)
      where
        four : (s : ℕ) → s ≤ n / 4 → 4 * s ≤ n
        four s h = omega arith

    high : n < suc (suc (2 * r)) * suc (suc (2 * r))
    high = lt_of_lt_of_le (four (suc r * suc r) b) (le_of_eq (sym (sq_double (suc r)) ∙ ap (λ (x : ℕ). x * x) two))
      where
        four : (s : ℕ) → n / 4 < s → n < 4 * s
        four s h = omega arith

        two : 2 * suc r ≡ suc (suc (2 * r))
        two = omega arith

    go : (t : Bool) → (T t → suc (2 * r) * suc (2 * r) ≤ n) → (T (not t) → n < suc (2 * r) * suc (2 * r)) → IsRoot n (cond t (suc (2 * r)) (2 * r))
    go true h k = (h tt, high)
    go false h k = (low, k tt)

root_digits_is : (d n : ℕ) → n < 4 ^ d → IsRoot n (root_digits d n)
unfolding root_digits
root_digits_is zero n h = (none n, h)
  where
    none : (n : ℕ) → 0 ≤ n
    none n = omega arith
root_digits_is (suc d) n h = extend_is n (root_digits d (n / 4)) (root_digits_is d (n / 4) (quarter (4 ^ d) (subst (λ (x : ℕ). n < x) (pow-suc 4 d) h)))
  where
    quarter : (p : ℕ) → n < p * 4 → n / 4 < p
    quarter p h = omega arith

pub four : (k : ℕ) → 4 ^ k ≡ 2 ^ (k + k)
four zero = refl
four (suc k) = pow-suc 4 k ∙ ap (λ (x : ℕ). x * 4) (four k) ∙ sym (ap (λ (x : ℕ). 2 ^ x) (two_more k) ∙ pow-add 2 (k + k) 2)
  where
    two_more : (k : ℕ) → suc k + suc k ≡ k + k + 2
    two_more k = omega arith

pub floor_root_is : (n : ℕ) → IsRoot n (floor_root n)
unfolding floor_root
floor_root_is n = root_digits_is (root_size n) n (lt_of_lt_of_le (size-lt n) (le_trans (pow_mono (twice (size n))) (le_of_eq (sym (four (root_size n))))))
  where
    twice : (s : ℕ) → s ≤ (s + 1) / 2 + (s + 1) / 2
    twice s = omega arith

pub floor_root_unique : (n r : ℕ) → IsRoot n r → floor_root n ≡ r
floor_root_unique n r h = root_unique n (floor_root n) r (floor_root_is n) h

-- ---- what `compare` says
abbrev pub Compared : Ordering → ℕ → ℕ → Type 0
Compared Ordering.lt a b = a < b
Compared Ordering.eq a b = a ≡ b
Compared Ordering.gt a b = b < a

pub compared : (a b : ℕ) → Compared (compare a b) a b
compared a b = go (compare a b) (leb→le a b) (nleb→lt a b) (eqb→eq a b) (λ (e : a ≡ b). subst (λ (x : ℕ). T (eqb a x)) e (eqb_refl a))
  where
    go : (o : Ordering) → (T (is_le o) → a ≤ b) → (T (not (is_le o)) → b < a) → (T (compare_is_eq o) → a ≡ b) → (a ≡ b → T (compare_is_eq o)) → Compared o a b
    go Ordering.lt h k e n = lt_of_le-ne (h tt) n
    go Ordering.eq h k e n = e tt
    go Ordering.gt h k e n = k tt

clash : {X : Type 0} (a b : ℕ) → a < b → b ≤ a → X
clash a b h k = absurd (not-le_of_lt h k)

-- two pairs of numbers that are ordered alike, in both directions, compare alike
same_order : (o p : Ordering) (a b c d : ℕ) → Compared o a b → Compared p c d → (a ≤ b → c ≤ d) → (b ≤ a → d ≤ c) → (c ≤ d → a ≤ b) → (d ≤ c → b ≤ a) → o ≡ p
same_order Ordering.lt Ordering.lt a b c d h k f g x y = refl
same_order Ordering.lt Ordering.eq a b c d h k f g x y = clash a b h (y (le_of_eq (sym k)))
same_order Ordering.lt Ordering.gt a b c d h k f g x y = clash d c k (f (le_of_lt h))
same_order Ordering.eq Ordering.lt a b c d h k f g x y = clash c d k (g (le_of_eq (sym h)))
same_order Ordering.eq Ordering.eq a b c d h k f g x y = refl
same_order Ordering.eq Ordering.gt a b c d h k f g x y = clash d c k (f (le_of_eq h))
same_order Ordering.gt Ordering.lt a b c d h k f g x y = clash c d k (g (le_of_lt h))
same_order Ordering.gt Ordering.eq a b c d h k f g x y = clash b a h (x (le_of_eq k))
same_order Ordering.gt Ordering.gt a b c d h k f g x y = refl

compare_times : (a b c : ℕ) → 0 < c → compare (a * c) (b * c) ≡ compare a b
compare_times a b c C =
    same_order (compare (a * c) (b * c)) (compare a b) (a * c) (b * c) a b (compared (a * c) (b * c)) (compared a b)
    (λ h. le_of_mul-le-mul_right h C) (λ h. le_of_mul-le-mul_right h C) (λ h. mul-le-mul_right c h) (λ h. mul-le-mul_right c h)

compare_lt : (a b : ℕ) → a < b → compare a b ≡ Ordering.lt
compare_lt a b h = go (compare a b) (compared a b)
  where
    go : (o : Ordering) → Compared o a b → o ≡ Ordering.lt
    go Ordering.lt k = refl
    go Ordering.eq k = clash a b h (le_of_eq (sym k))
    go Ordering.gt k = clash a b h (le_of_lt k)

compare_gt : (a b : ℕ) → b < a → compare a b ≡ Ordering.gt
compare_gt a b h = go (compare a b) (compared a b)
  where
    go : (o : Ordering) → Compared o a b → o ≡ Ordering.gt
    go Ordering.lt k = clash b a h (le_of_lt k)
    go Ordering.eq k = clash b a h (le_of_eq k)
    go Ordering.gt k = refl

-- ---- `nearest_root` sees only the value of its fraction
nearest_root_at : (a b q : ℕ) → floor_root (a / b) ≡ q → nearest_root a b ≡ nearest q (compare (a * 4) ((2 * q + 1) * (2 * q + 1) * b))
unfolding nearest_root
nearest_root_at a b q e = ap (λ (q : ℕ). nearest q (compare (a * 4) ((2 * q + 1) * (2 * q + 1) * b))) e

pub nearest_root_same : (a b c d : ℕ) → 0 < b → 0 < d → a * d ≡ c * b → nearest_root a b ≡ nearest_root c d
nearest_root_same a b c d B D e =
    let q = floor_root (c / d) in
    let h = (2 * q + 1) * (2 * q + 1) in
    nearest_root_at a b q (ap floor_root (div_same a b c d B D e))
    ∙ ap (nearest q)
    (sym (compare_times (a * 4) (h * b) d D)
    ∙ ap (λ (x : ℕ). compare x (h * b * d)) (mul_right_comm a 4 d ∙ ap (λ (x : ℕ). x * 4) e ∙ mul_right_comm c b 4)
    ∙ ap (λ (x : ℕ). compare (c * 4 * b) x) (mul_right_comm h b d)
    ∙ compare_times (c * 4) (h * d) b B)
    ∙ sym (nearest_root_at c d q refl)

-- ---- `nearest_root` of a whole number, from its root's whole part q and what the square of that leaves
module _ (n q l : ℕ) (e : q * q + l ≡ n) (h : l ≤ 2 * q) where
  pub left_root : IsRoot n q
  left_root = (low (q * q) e, lt_of_lt_of_le (high (q * q) e) (le_of_eq (sym (sq_suc q))))
    where
      low : (s : ℕ) → s + l ≡ n → s ≤ n
      low s e = omega arith

      high : (s : ℕ) → s + l ≡ n → n < s + 2 * q + 1
      high s e = omega arith

  at_whole : nearest_root n 1 ≡ nearest q (compare (n * 4) ((2 * q + 1) * (2 * q + 1) * 1))
  at_whole = nearest_root_at n 1 q (ap floor_root (div-one n) ∙ floor_root_unique n q left_root)

  middle : (2 * q + 1) * (2 * q + 1) * 1 ≡ 4 * (q * q) + 4 * q + 1
  middle = mul-one ((2 * q + 1) * (2 * q + 1)) ∙ sq_odd q

  pub near_down : l ≤ q → nearest_root n 1 ≡ q
  near_down k = at_whole ∙ ap (nearest q) (compare_lt (n * 4) ((2 * q + 1) * (2 * q + 1) * 1) (subst (λ (x : ℕ). n * 4 < x) (sym middle) (below (q * q) e)))
    where
      below : (s : ℕ) → s + l ≡ n → n * 4 < 4 * s + 4 * q + 1
      below s e = omega arith

  pub near_up : q < l → nearest_root n 1 ≡ q + 1
  near_up k = at_whole ∙ ap (nearest q) (compare_gt (n * 4) ((2 * q + 1) * (2 * q + 1) * 1) (subst (λ (x : ℕ). x < n * 4) (sym middle) (above (q * q) e))) ∙ sym (add-one q)
    where
      above : (s : ℕ) → s + l ≡ n → 4 * s + 4 * q + 1 < n * 4
      above s e = omega arith

-- ---- `nearest_root` of a whole number n, from any q whose square is nearly n: q * q is n + s - l
module _ (n q l s : ℕ) (e : q * q + l ≡ n + s) (small : s < q) (h : l ≤ 2 * q) where
  pub about_up : q + s < l → nearest_root n 1 ≡ q + 1
  about_up k = near_up n q (l - s) (more (q * q) e) (omega arith) (omega arith)
    where
      more : (x : ℕ) → x + l ≡ n + s → x + (l - s) ≡ n
      more x p = omega arith

  pub about_down : l ≤ q + s → nearest_root n 1 ≡ q
  about_down k = go (dec_le s l)
    where
      more : (x : ℕ) → x + l ≡ n + s → s ≤ l → x + (l - s) ≡ n
      more x p u = omega arith

      -- q is one above the whole part of the root
      less : (p : ℕ) → q ≡ suc p → l < s → nearest_root n 1 ≡ q
      less p z u = near_up n p (2 * p + 1 - (s - l)) (take (p * p) (subst (λ (x : ℕ). x + l ≡ n + s) (ap (λ (x : ℕ). x * x) z ∙ sq_suc p) e)) (omega arith) (omega arith) ∙ add-one p ∙ sym z
        where
          take : (x : ℕ) → x + 2 * p + 1 + l ≡ n + s → x + (2 * p + 1 - (s - l)) ≡ n
          take x y = omega arith

      go : Dec (s ≤ l) → nearest_root n 1 ≡ q
      go (yes u) = near_down n q (l - s) (more (q * q) e u) (omega arith) (omega arith)
      go (no f) = less (q - 1) (omega arith) (lt_of_not-le f)

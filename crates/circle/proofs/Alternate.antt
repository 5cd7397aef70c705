-- The series of a square, from its end inwards: each step takes a multiple of what comes after from 1. Assumes nothing.
use mathlib.Core.Path.{◌≡◌, sym, ap, ◌∙◌, subst}
use Prim.Native.Nat.{ℕ, suc, ◌+◌, ◌-◌, ◌*◌, ◌/◌, ◌^◌, ◌≤◌, ◌<◌, zero-le}
use native.Mathlib.Nat.{le_trans, le_of_eq, le_of_lt, le_refl, add-le-add, mul-add, add-mul, mul_comm, mul_assoc, mul_left_comm, mul-le-mul, mul-le-mul_left, mul-le-mul_right, le_of_mul-le-mul_right, le_of_mul-le-mul_left, mul-pos, zero-lt-suc, mul-one, zero-mul, mul-suc, suc-mul, div-mul-le_self, lt-div-mul-add, zero-add}
use native.Mathlib.Omega.{arith}
use lib.Pow.{pow_pos}
use Rattle.circle.specs.Series.{Quarter, east, north, west, south, start, back, at, sum, part}
use Rattle.circle.specs.Inside.Fixed.{Apart, IsHigh}
use Rattle.circle.specs.Inside.Law.{Law}
use Rattle.circle.specs.Inside.Horner.{IsHorner, Alternating}
use Rattle.circle.proofs.Terms.{halves, gain}
use Rattle.circle.proofs.Sums.{sum_first, sum_upto, sum_cong}

-- ---- the terms two places apart
pub two_law : (u : ℕ → ℕ) (a b M k : ℕ) → Law u a b M → suc k < M → b * b * (suc k * suc (suc k) * u (suc (suc k))) ≡ a * a * u k
two_law u a b M k law h =
    one (suc k) (suc (suc k)) (u (suc (suc k)))
    ∙ ap (λ (x : ℕ). b * suc k * x) (law (suc k) h)
    ∙ two (suc k) (u (suc k))
    ∙ ap (λ (x : ℕ). a * x) (law k (less k M h))
    ∙ sym (mul_assoc a a (u k))
  where
    one : (m n v : ℕ) → b * b * (m * n * v) ≡ b * m * (b * (n * v))
    one m n v = simp (mul_assoc, mul_left_comm)

    two : (m v : ℕ) → b * m * (a * v) ≡ a * (b * (m * v))
    two m v = simp (mul_assoc, mul_left_comm)

    less : (k M : ℕ) → suc k < M → k < M
    less k M h = omega arith

-- ---- a sum without its first terms
pub peel : (v : ℕ → ℕ) (d : ℕ) (c : Quarter) → part v (suc d) c ≡ start c * v 0 + part (λ (j : ℕ). v (suc j)) d (back c)
unfolding at
peel v d c = sum_first (λ (j : ℕ). at c j * v j) d

pub from_one : (u : ℕ → ℕ) (d : ℕ) (c : Quarter) → start c ≡ 0 → part u (suc d) c ≡ part (λ (j : ℕ). u (1 + j)) d (back c)
from_one u d c z =
    peel u d c
    ∙ ap (λ (x : ℕ). x * u 0 + part (λ (j : ℕ). u (suc j)) d (back c)) z
    ∙ none (u 0) (part (λ (j : ℕ). u (suc j)) d (back c))
    ∙ sum_cong (λ (j : ℕ). at (back c) j * u (suc j)) (λ (j : ℕ). at (back c) j * u (1 + j)) d (λ j l. ap (λ (x : ℕ). at (back c) j * u x) (go j))
  where
    none : (a s : ℕ) → 0 * a + s ≡ s
    none a s = omega arith

    go : (j : ℕ) → suc j ≡ 1 + j
    go j = omega arith

pub from_zero : (u : ℕ → ℕ) (d : ℕ) (c : Quarter) → part u d c ≡ part (λ (j : ℕ). u (0 + j)) d c
from_zero u d c = sum_cong (λ (j : ℕ). at c j * u j) (λ (j : ℕ). at c j * u (0 + j)) d (λ j l. ap (λ (x : ℕ). at c j * u x) (sym (zero-add j)))

further : (u : ℕ → ℕ) (k d : ℕ) (c : Quarter) → part (λ (j : ℕ). u (k + suc (suc j))) d c ≡ part (λ (j : ℕ). u (suc (suc k) + j)) d c
further u k d c = sum_cong (λ (j : ℕ). at c j * u (k + suc (suc j))) (λ (j : ℕ). at c j * u (suc (suc k) + j)) d (λ j l. ap (λ (x : ℕ). at c j * u x) (go k j))
  where
    go : (k j : ℕ) → k + suc (suc j) ≡ suc (suc k) + j
    go k j = omega arith

pub east_further : (u : ℕ → ℕ) (k d : ℕ) → part (λ (j : ℕ). u (k + j)) (suc (suc d)) east ≡ u k + part (λ (j : ℕ). u (suc (suc k) + j)) d west
east_further u k d =
    peel (λ (j : ℕ). u (k + j)) (suc d) east
    ∙ ap (λ (x : ℕ). 1 * u (k + 0) + x) (peel (λ (j : ℕ). u (k + suc j)) d south)
    ∙ go (u (k + 0)) (u (k + suc 0)) (part (λ (j : ℕ). u (k + suc (suc j))) d west)
    ∙ ap (λ (x : ℕ). u x + part (λ (j : ℕ). u (k + suc (suc j))) d west) (none k)
    ∙ ap (λ (x : ℕ). u k + x) (further u k d west)
  where
    go : (a b c : ℕ) → 1 * a + (0 * b + c) ≡ a + c
    go a b c = omega arith

    none : (k : ℕ) → k + 0 ≡ k
    none k = omega arith

pub west_further : (u : ℕ → ℕ) (k d : ℕ) → part (λ (j : ℕ). u (k + j)) (suc (suc d)) west ≡ part (λ (j : ℕ). u (suc (suc k) + j)) d east
west_further u k d =
    peel (λ (j : ℕ). u (k + j)) (suc d) west
    ∙ ap (λ (x : ℕ). 0 * u (k + 0) + x) (peel (λ (j : ℕ). u (k + suc j)) d north)
    ∙ go (u (k + 0)) (u (k + suc 0)) (part (λ (j : ℕ). u (k + suc (suc j))) d east)
    ∙ further u k d east
  where
    go : (a b c : ℕ) → 0 * a + (0 * b + c) ≡ c
    go a b c = omega arith

-- ---- one step, on numbers: U and Z are two terms, A / B the square of the argument
module _ (w G A B U Z q g h n : ℕ) (g0 : 0 < G) (b0 : 0 < B) (n2 : 2 ≤ n) (law : B * (n * Z) ≡ A * U) where
  n0 : 0 < n
  n0 = omega arith

  taken_low : q * B ≤ A * G → h * n * G ≤ g * q → h * U ≤ g * Z
  taken_low lo i =
      le_of_mul-le-mul_right {k = n * G * B}
      (le_trans (le_of_eq one)
      (le_trans (mul-le-mul_right (U * B) i)
      (le_trans (le_of_eq two)
      (le_trans (mul-le-mul_left (g * U) lo) (le_of_eq (three ∙ ap (λ (x : ℕ). g * G * x) (sym law) ∙ four))))))
      (mul-pos (mul-pos n0 g0) b0)
    where
      one : h * U * (n * G * B) ≡ h * n * G * (U * B)
      one = simp (mul_assoc, mul_comm, mul_left_comm)

      two : g * q * (U * B) ≡ g * U * (q * B)
      two = simp (mul_assoc, mul_comm, mul_left_comm)

      three : g * U * (A * G) ≡ g * G * (A * U)
      three = simp (mul_assoc, mul_comm, mul_left_comm)

      four : g * G * (B * (n * Z)) ≡ g * Z * (n * G * B)
      four = simp (mul_assoc, mul_comm, mul_left_comm)

  taken_high : A * G ≤ (q + 6) * B → g * q ≤ (h * n + n + 3) * G → g ≤ G → g * Z ≤ (h + 6) * U
  taken_high hi i small =
      le_of_mul-le-mul_right {k = n * G * B}
      (le_trans (le_of_eq (sym (three ∙ ap (λ (x : ℕ). g * G * x) (sym law) ∙ four)))
      (le_trans (mul-le-mul_left (g * U) hi)
      (le_trans (le_of_eq (two (q + 6)))
      (le_trans (mul-le-mul_right (U * B) room) (le_of_eq (one (h + 6)))))))
      (mul-pos (mul-pos n0 g0) b0)
    where
      one : (z : ℕ) → z * n * G * (U * B) ≡ z * U * (n * G * B)
      one z = simp (mul_assoc, mul_comm, mul_left_comm)

      two : (z : ℕ) → g * U * (z * B) ≡ g * z * (U * B)
      two z = simp (mul_assoc, mul_comm, mul_left_comm)

      three : g * U * (A * G) ≡ g * G * (A * U)
      three = simp (mul_assoc, mul_comm, mul_left_comm)

      four : g * G * (B * (n * Z)) ≡ g * Z * (n * G * B)
      four = simp (mul_assoc, mul_comm, mul_left_comm)

      count : h * n + n + 3 + 6 ≤ (h + 6) * n
      count = le_trans (go (h * n)) (le_of_eq (sym (add-mul h 6 n)))
        where
          go : (x : ℕ) → x + n + 3 + 6 ≤ x + 6 * n
          go x = omega arith

      room : g * (q + 6) ≤ (h + 6) * n * G
      room =
          le_trans (le_of_eq (mul-add g q 6))
          (le_trans (add-le-add i (le_trans (mul-le-mul_right 6 small) (le_of_eq (mul_comm G 6))))
          (le_trans (le_of_eq (sym (add-mul (h * n + n + 3) 6 G))) (mul-le-mul_right G count)))

  smaller : A * (w * w) ≤ B → n * (w * w) * Z ≤ U
  smaller l = le_of_mul-le-mul_left {k = B} (le_trans (le_of_eq (one (w * w) ∙ ap (λ (x : ℕ). w * w * x) law ∙ two (w * w))) (mul-le-mul_right U l)) b0
    where
      one : (v : ℕ) → B * (n * v * Z) ≡ v * (B * (n * Z))
      one v = simp (mul_assoc, mul_comm, mul_left_comm)

      two : (v : ℕ) → v * (A * U) ≡ A * v * U
      two v = simp (mul_assoc, mul_comm, mul_left_comm)

  stepped : (r e f e' E W : ℕ) → r + h ≡ G → q * B ≤ A * G → A * G ≤ (q + 6) * B → h * n * G ≤ g * q → g * q ≤ (h * n + n + 3) * G → g ≤ G → A * (w * w) ≤ B → e ≡ f + 6 → e' ≤ n * (w * w) * f
      → Apart (g * Z) (0 * Z) (E * G) (W * G) (e' * Z) → Apart (r * U) (0 * U) ((U + W) * G) (E * G) (e * U)
  stepped r e f e' E W whole lo hi i j small l is room a =
      rw (is, zero-mul U, add-mul U W G, add-mul f 6 U)
      (sums (r * U) (h * U) (U * G) (g * Z) (E * G) (W * G) (e' * Z) (f * U) (0 * Z)
      (zero-mul Z)
      (sym (add-mul r h U) ∙ ap (λ (x : ℕ). x * U) whole ∙ mul_comm G U)
      (taken_low lo i)
      (le_trans (taken_high hi j small) (le_of_eq (add-mul h 6 U)))
      (le_trans (mul-le-mul_right Z room) (le_trans (le_of_eq (turn (n * (w * w)) f Z)) (mul-le-mul_left f (smaller l))))
      a)
    where
      turn : (n f Z : ℕ) → n * f * Z ≡ f * (n * Z)
      turn n f Z = simp (mul_assoc, mul_left_comm)

      sums : (rU hU UG gV EG WG eV fU z : ℕ) → z ≡ 0 → rU + hU ≡ UG → hU ≤ gV → gV ≤ hU + 6 * U → eV ≤ fU → Apart gV z EG WG eV → Apart rU 0 (UG + WG) EG (fU + 6 * U)
      sums rU hU UG gV EG WG eV fU z e0 e1 l1 l2 l3 a = record { under = omega (arith, e0, e1, l1, l2, l3, a.under, a.over); over = omega (arith, e0, e1, l1, l2, l3, a.under, a.over) }

square_le : (a b w : ℕ) → a * w ≤ b → a * a * (w * w) ≤ b * b
square_le a b w h = le_trans (le_of_eq turn) (mul-le-mul h h)
  where
    turn : a * a * (w * w) ≡ a * w * (a * w)
    turn = simp (mul_assoc, mul_left_comm)

pub step : (w q k e f e' z g r n : ℕ) → Alternating w q (suc (suc k)) e' z g → IsHorner g q n r → n ≡ suc k * suc (suc k) → 2 ≤ n → e ≡ f + 6 → e' ≤ n * (w * w) * f → Alternating w q k e (suc (suc z)) r
step w q k e f e' z g r n t i is two six room = record {
  most = under r i.taken i.whole;
  near = λ u a b M d b0 l law sq len fit.
      let s : d ≡ suc (suc (d - 2)) = back_two d z len in
      subst (λ (x : ℕ). Apart (r * u k) (0 * u k) (part (λ (j : ℕ). u (k + j)) x east * 2 ^ 63) (part (λ (j : ℕ). u (k + j)) x west * 2 ^ 63) (e * u k)) (sym s)
      (rw (east_further u k (d - 2), west_further u k (d - 2))
      (stepped w (2 ^ 63) (a * a) (b * b) (u k) (u (suc (suc k))) q g i.taken n (pow_pos 63) (mul-pos b0 b0) two
      (subst (λ (x : ℕ). b * b * (x * u (suc (suc k))) ≡ a * a * u k) (sym is) (two_law u a b M k law (fits d z k M len fit)))
      r e f e' (part (λ (j : ℕ). u (suc (suc k) + j)) (d - 2) east) (part (λ (j : ℕ). u (suc (suc k) + j)) (d - 2) west)
      i.whole sq.low sq.high i.low i.high t.most (square_le a b w l) six room
      (t.near u a b M (d - 2) b0 l law sq (rest d z len) (rest_fits d z k M len fit))));
}
  where
    under : (r h : ℕ) → r + h ≡ 2 ^ 63 → r ≤ 2 ^ 63
    under r h w = omega arith

    back_two : (d z : ℕ) → suc (suc z) ≤ d → d ≡ suc (suc (d - 2))
    back_two d z l = omega arith

    rest : (d z : ℕ) → suc (suc z) ≤ d → z ≤ d - 2
    rest d z l = omega arith

    fits : (d z k M : ℕ) → suc (suc z) ≤ d → k + d ≤ M → suc k < M
    fits d z k M l h = omega arith

    rest_fits : (d z k M : ℕ) → suc (suc z) ≤ d → k + d ≤ M → suc (suc k) + (d - 2) ≤ M
    rest_fits d z k M l h = omega arith

-- ---- the end: from the k-th term on the sum is between nothing and twice that term
module _ (u : ℕ → ℕ) (a b M k d : ℕ) (b0 : 0 < b) (l : a ≤ b) (law : Law u a b M) (k0 : 0 < k) (fit : k + d ≤ M) where
  abbrev v : ℕ → ℕ
  v j = u (k + j)

  slow : a * 1 ≤ 1 * b
  slow = omega arith

  falls : (j : ℕ) → 0 ≤ j → j < 0 + d → 2 * v (suc j) ≤ v j
  falls j p h = subst (λ (x : ℕ). 2 * u x ≤ u (k + j)) (shift k j) (halves u a b M 1 1 b0 law slow (k + j) (omega arith) (zero-lt-suc 0) (omega arith))
    where
      shift : (k j : ℕ) → suc (k + j) ≡ k + suc j
      shift k j = omega arith

  pub gained : (t : Quarter) → part v d t + v d ≤ part v 0 t + v 0
  gained t = subst (λ (x : ℕ). part v x t + v x ≤ part v 0 t + v 0) (go d) (gain v t 0 d falls)
    where
      go : (d : ℕ) → 0 + d ≡ d
      go d = omega arith

  pub east_most : part v d east ≤ 2 * u k
  unfolding sum at
  east_most = go (part v d east) (v d) (u (k + 0)) (u k) (ap (λ (x : ℕ). u x) (none k)) (gained east)
    where
      none : (k : ℕ) → k + 0 ≡ k
      none k = omega arith

      go : (s w x y : ℕ) → x ≡ y → s + w ≤ 1 * x + x → s ≤ 2 * y
      go s w x y e h = omega arith

  pub west_most : part v d west ≤ u k
  unfolding sum at
  west_most = go (part v d west) (v d) (u (k + 0)) (u k) (ap (λ (x : ℕ). u x) (none k)) (gained west)
    where
      none : (k : ℕ) → k + 0 ≡ k
      none k = omega arith

      go : (s w x y : ℕ) → x ≡ y → s + w ≤ 0 * x + x → s ≤ y
      go s w x y e h = omega arith

  pub east_least : u k ≤ part v d east
  unfolding sum at
  east_least = le_trans (go (u (k + 0)) (u k) (ap (λ (x : ℕ). u x) (none k))) (sum_upto (λ (j : ℕ). at east j * v j) 0 d zero-le)
    where
      none : (k : ℕ) → k + 0 ≡ k
      none k = omega arith

      go : (x y : ℕ) → x ≡ y → y ≤ 1 * x
      go x y e = omega arith

pub last : (w q k : ℕ) → 0 < w → 0 < k → Alternating w q k (2 ^ 63) 0 (2 ^ 63)
last w q k w0 k0 = record {
  most = le_refl (2 ^ 63);
  near = λ u a b M d b0 h law sq len fit. let l = under a b h in go (u k) (part (λ (j : ℕ). u (k + j)) d east) (part (λ (j : ℕ). u (k + j)) d west) (east_least u a b M k d b0 l law k0 fit) (east_most u a b M k d b0 l law k0 fit) (west_most u a b M k d b0 l law k0 fit);
}
  where
    under : (a b : ℕ) → a * w ≤ b → a ≤ b
    under a b h = le_trans (le_of_eq (sym (mul-one a))) (le_trans (mul-le-mul_left a w0) h)

    go : (v E W : ℕ) → v ≤ E → E ≤ 2 * v → W ≤ v → Apart (2 ^ 63 * v) (0 * v) (E * 2 ^ 63) (W * 2 ^ 63) (2 ^ 63 * v)
    go v E W a b c = rw (zero-mul v) record { under = omega (arith, a, b, c); over = omega (arith, a, b, c) }

-- ---- the code's step, and the square of the argument
pub is_horner : (g q n h : ℕ) → 2 ≤ n → g ≤ 2 ^ 63 → q ≤ 2 ^ 63 → IsHigh g q h → (h / n ≤ 2 ^ 63) × IsHorner g q n (2 ^ 63 - h / n)
is_horner g q n h two small small' i = go (h / n) (div-mul-le_self h n) (lt-div-mul-add (positive n two))
  where
    positive : (n : ℕ) → 2 ≤ n → 0 < n
    positive n l = omega arith

    go : (t : ℕ) → t * n ≤ h → h < t * n + n → (t ≤ 2 ^ 63) × IsHorner g q n (2 ^ 63 - t)
    go t l u = (
      most,
      record {
        taken = t;
        whole = back t most;
        low = le_trans (mul-le-mul_right (2 ^ 63) l) i.low;
        high = le_trans (le_of_lt i.high) (mul-le-mul_right (2 ^ 63) more);
      },
    )
      where
        more : h + 4 ≤ t * n + n + 3
        more = omega arith

        back : (t : ℕ) → t ≤ 2 ^ 63 → 2 ^ 63 - t + t ≡ 2 ^ 63
        back t m = omega arith

        upper : h ≤ 2 ^ 63
        upper = le_of_mul-le-mul_right {k = 2 ^ 63} (le_trans i.low (mul-le-mul small small')) (pow_pos 63)

        most : t ≤ 2 ^ 63
        most = le_trans (le_trans (le_of_eq (sym (mul-one t))) (mul-le-mul_left t (positive n two))) (le_trans l upper)

-- y is the whole part of a / b * G, and q the upper half of its square
pub rooted : (G a b y q : ℕ) → 0 < G → y < G → y * b ≤ a * G → a * G ≤ suc y * b → q * G ≤ y * y → y * y ≤ (q + 4) * G → (q * (b * b) ≤ a * a * G) × (a * a * G ≤ (q + 6) * (b * b))
rooted G a b y q g0 small l h i j = (
  le_of_mul-le-mul_right {k = G} (le_trans (le_of_eq (one q)) (le_trans (mul-le-mul_right (b * b) i) (le_trans (le_of_eq (pair y b)) (le_trans (mul-le-mul l l) (le_of_eq two))))) g0,
  le_of_mul-le-mul_right {k = G} (le_trans (le_of_eq (sym two)) (le_trans (mul-le-mul h h) (le_trans (le_of_eq (sym (pair (suc y) b))) (le_trans (mul-le-mul_right (b * b) room) (le_of_eq (sym (one (q + 6)))))))) g0,
)
  where
    one : (z : ℕ) → z * (b * b) * G ≡ z * G * (b * b)
    one z = simp (mul_assoc, mul_comm, mul_left_comm)

    pair : (y b : ℕ) → y * y * (b * b) ≡ y * b * (y * b)
    pair y b = simp (mul_assoc, mul_left_comm)

    two : a * G * (a * G) ≡ a * a * G * G
    two = simp (mul_assoc, mul_comm, mul_left_comm)

    room : suc y * suc y ≤ (q + 6) * G
    room = le_trans (le_of_eq square) (le_trans (sums (y * y) ((q + 4) * G) j) (le_of_eq (sym split)))
      where
        square : suc y * suc y ≡ y * y + (2 * y + 1)
        square = mul-suc (suc y) y ∙ ap (λ (x : ℕ). x + suc y) (suc-mul y y) ∙ go (y * y)
          where
            go : (x : ℕ) → x + y + suc y ≡ x + (2 * y + 1)
            go x = omega arith

        split : (q + 6) * G ≡ (q + 4) * G + 2 * G
        split = ap (λ (x : ℕ). x * G) (count q) ∙ add-mul (q + 4) 2 G
          where
            count : (q : ℕ) → q + 6 ≡ q + 4 + 2
            count q = omega arith

        sums : (x z : ℕ) → x ≤ z → x + (2 * y + 1) ≤ z + 2 * G
        sums x z k = omega arith

-- The loop's invariant: after j doublings. Assumes nothing.
use mathlib.Core.Path.{◌≡◌, refl, sym, ap, ◌∙◌, subst}
use mathlib.Core.Bool.{Bool, ◌&&◌}
use Prim.Native.Nat.{ℕ, zero, suc, ◌+◌, ◌-◌, ◌*◌, ◌/◌, ◌%◌, ◌^◌, ◌≤◌, ◌<◌}
use native.Mathlib.Nat.{le_trans, le_of_eq, lt_of_not-le, mul-add, add-mul, mul_comm, mul_assoc, mul_left_comm, mul-le-mul, mul-le-mul_left, mul-le-mul_right, mul-pos, le-div_iff_mul-le, zero-lt-suc, pow-suc, pow-zero, mul-one, eq_of_mul-eq-mul_left}
use native.Mathlib.Decide.{dec_le}
use native.Mathlib.Omega.{arith}
use lib.Pow.{pow_pos, pow_mono, pow-add}
use lib.Dec.{T, leb, leb→le}
use lib.Ieee.Fits.{and_l, and_r}
use Rattle.circle.specs.Series.{Quarter, east, north, west, south, at, part}
use Rattle.circle.specs.Series.{falling, term}
use Rattle.circle.specs.Inside.Fixed.{Apart}
use Rattle.circle.specs.Inside.Law.{Law}
use Rattle.circle.specs.Inside.Signed.{plus, less}
use Rattle.circle.specs.Inside.Circle.{State, IsFirst, IsDoubled, IsCircle, error}
use Rattle.circle.proofs.Signed.{apart_times, apart_cancel, apart_wider}
use Rattle.circle.proofs.Sums.{sum_cong, sum_times}
use Rattle.circle.proofs.Terms.{level, level_law, level_zero, term_law, doubled_law, proportion}
use Rattle.circle.proofs.Onward.{after}
use Rattle.circle.proofs.Squares.{twice_le, root_small}
use Rattle.circle.proofs.Steady.{rounded_of, sizes}

-- ---- bounds of the sum of squares and of the error after j doublings, by computation
unfoldable pub squares : ℕ → ℕ
squares zero = 2 ^ 126 + 2 ^ 112
squares (suc j) = (squares j + 4 * 2 ^ 63) * (squares j + 4 * 2 ^ 63) / 2 ^ 126

test : ℕ → Bool
test j = leb (squares j) (35 * 2 ^ 121) && leb (error j) (2 ^ 22)

unfoldable tests : ℕ → Bool
tests zero = test 0
tests (suc j) = test (suc j) && tests j

tested : (n j : ℕ) → T (tests n) → j ≤ n → T (test j)
unfolding tests
tested zero j t h = subst (λ (x : ℕ). T (test x)) (go j h) t
  where
    go : (j : ℕ) → j ≤ 0 → 0 ≡ j
    go j h = omega arith
tested (suc n) j t h = elim (dec_le j n) [ yes y ↦ tested n j (and_r (test (suc n)) (tests n) t) y | no f ↦ subst (λ (x : ℕ). T (test x)) (go n j h (lt_of_not-le f)) (and_l (test (suc n)) (tests n) t) ]
  where
    go : (n j : ℕ) → j ≤ suc n → n < j → suc n ≡ j
    go n j h k = omega arith

all_ten : T (tests 10)
unfolding tests test squares error
all_ten = tt

pub squares_most : (j : ℕ) → j ≤ 10 → squares j ≤ 35 * 2 ^ 121
unfolding test
squares_most j h = leb→le (squares j) (35 * 2 ^ 121) (and_l (leb (squares j) (35 * 2 ^ 121)) (leb (error j) (2 ^ 22)) (tested 10 j all_ten h))

error_most : (j : ℕ) → j ≤ 10 → error j ≤ 2 ^ 22
unfolding test
error_most j h = leb→le (error j) (2 ^ 22) (and_r (leb (squares j) (35 * 2 ^ 121)) (leb (error j) (2 ^ 22)) (tested 10 j all_ten h))

pub doubled_fits : (x j : ℕ) → j ≤ 10 → x ≤ squares j → x ≤ 9 * 2 ^ 123
doubled_fits x j h k = le_trans k (le_trans (squares_most j h) (leb→le (35 * 2 ^ 121) (9 * 2 ^ 123) tt))

squares_last : squares 11 ≤ 40 * 2 ^ 121
unfolding squares
squares_last = leb→le (squares 11) (40 * 2 ^ 121) tt

pub size_most : (c s j : ℕ) → j ≤ 11 → c * c + s * s ≤ squares j → c ≤ 9 * 2 ^ 60
size_most c s j h k = root_small c (9 * 2 ^ 60) (40 * 2 ^ 121) (le_trans (go (c * c) (s * s)) (le_trans k most)) (leb→le (suc (40 * 2 ^ 121)) (suc (9 * 2 ^ 60) * suc (9 * 2 ^ 60)) tt)
  where
    most : squares j ≤ 40 * 2 ^ 121
    most = elim (dec_le j 10) [ yes y ↦ le_trans (squares_most j y) (leb→le (35 * 2 ^ 121) (40 * 2 ^ 121) tt) | no f ↦ subst (λ (i : ℕ). squares i ≤ 40 * 2 ^ 121) (sym (end j h (lt_of_not-le f))) squares_last ]
      where
        end : (j : ℕ) → j ≤ 11 → 10 < j → j ≡ 11
        end j h k = omega arith

    go : (a b : ℕ) → a ≤ a + b
    go a b = omega arith

-- ---- one turn's bounds
sum_most : (c s m : ℕ) → c * c + s * s ≤ 35 * 2 ^ 121 → c + s ≤ 95 * 2 ^ 57
sum_most c s m h = root_small (c + s) (95 * 2 ^ 57) (70 * 2 ^ 121) (le_trans (le_of_eq square) (le_trans (both (c * c) (s * s) (2 * (c * s)) (twice_le c s)) (le_trans (mul-le-mul_left 2 h) (leb→le (2 * (35 * 2 ^ 121)) (70 * 2 ^ 121) tt)))) (leb→le (suc (70 * 2 ^ 121)) (suc (95 * 2 ^ 57) * suc (95 * 2 ^ 57)) tt)
  where
    square : (c + s) * (c + s) ≡ c * c + s * s + 2 * (c * s)
    square = rw (add-mul c s (c + s), mul-add c c s, mul-add s c s, mul_comm s c) (go (c * c) (c * s) (s * s))
      where
        go : (p q r : ℕ) → p + q + (q + r) ≡ p + r + 2 * q
        go p q r = omega arith

    both : (p q r : ℕ) → r ≤ p + q → p + q + r ≤ 2 * (p + q)
    both p q r l = omega arith

total : (ε c s : ℕ) → c + s ≤ 95 * 2 ^ 57 → ε ≤ 2 ^ 22 → 8 * 2 ^ 63 + 2 * (ε * (c + s + ε)) + 2 ^ 63 ≤ 2 ^ 63 * (3 * ε + 9)
total ε c s h k = le_trans (sums (ε * (2 * (c + s + ε))) (2 * (ε * (c + s + ε))) (ε * (3 * 2 ^ 63)) (mul_left_comm ε 2 (c + s + ε)) (mul-le-mul_left ε room)) (le_of_eq close)
  where
    room : 2 * (c + s + ε) ≤ 3 * 2 ^ 63
    room = omega arith

    sums : (x y z : ℕ) → x ≡ y → x ≤ z → 8 * 2 ^ 63 + y + 2 ^ 63 ≤ z + 9 * 2 ^ 63
    sums x y z p q = omega (arith, p, q)

    close : ε * (3 * 2 ^ 63) + 9 * 2 ^ 63 ≡ 2 ^ 63 * (3 * ε + 9)
    close = go ε
      where
        go : (e : ℕ) → e * (3 * 2 ^ 63) + 9 * 2 ^ 63 ≡ 2 ^ 63 * (3 * e + 9)
        go e = omega arith

whole : (k c : ℕ) → plus k c + less k c ≡ c
whole zero c = go c
  where
    go : (c : ℕ) → c + 0 ≡ c
    go c = omega arith
whole (suc k) c = go c
  where
    go : (c : ℕ) → 0 + c ≡ c
    go c = omega arith

next_squares : (c s p : ℕ) → c * 2 ^ 63 * (c * 2 ^ 63) + s * 2 ^ 63 * (s * 2 ^ 63) ≤ (p + 4 * 2 ^ 63) * (p + 4 * 2 ^ 63) → (j : ℕ) → p ≤ squares j → c * c + s * s ≤ squares (suc j)
unfolding squares
next_squares c s p h j k =
    (le-div_iff_mul-le {k = 2 ^ 126} {x = c * c + s * s} {y = (squares j + 4 * 2 ^ 63) * (squares j + 4 * 2 ^ 63)} (pow_pos 126)).1
    (le_trans (le_of_eq (add-mul (c * c) (s * s) (2 ^ 126) ∙ ap (λ (x : ℕ). x + s * s * 2 ^ 126) (sym (one c)) ∙ ap (λ (x : ℕ). c * 2 ^ 63 * (c * 2 ^ 63) + x) (sym (one s))))
    (le_trans h (mul-le-mul (more p (squares j) k) (more p (squares j) k))))
  where
    one : (x : ℕ) → x * 2 ^ 63 * (x * 2 ^ 63) ≡ x * x * 2 ^ 126
    one x = go (2 ^ 63) ∙ refl
      where
        go : (g : ℕ) → x * g * (x * g) ≡ x * x * (g * g)
        go g = simp (mul_assoc, mul_left_comm)

    more : (a b : ℕ) → a ≤ b → a + 4 * 2 ^ 63 ≤ b + 4 * 2 ^ 63
    more a b l = omega arith

-- ---- the invariant
abbrev base : ℕ → ℕ → ℕ → ℕ → ℕ
base a b N = term a (b * 2 ^ 11) (N + N)

pub record Follows (y j cn c sn s : ℕ) : Type 0 where
  pub size : c * c + s * s ≤ squares j
  pub c_sign : cn ≤ 1
  pub s_sign : sn ≤ 1
  pub near : (a b N : ℕ) → 0 < b → a ≤ 200 * b → y * b ≤ a * 2 ^ 52 → a * 2 ^ 52 ≤ suc y * b → 600 ≤ N → State (level (base a b N) j) (base a b N 0) N (2 ^ 63) (error j) (plus cn c) (less cn c) (plus sn s) (less sn s)

falling_pos : (b M d : ℕ) → 0 < b → d ≤ M → 0 < falling b M d
unfolding falling
falling_pos b M zero p h = zero-lt-suc 0
falling_pos b M (suc d) p h = mul-pos (falling_pos b M d p (omega arith)) (mul-pos p (go M d h))
  where
    go : (M d : ℕ) → suc d ≤ M → 0 < M - d
    go M d h = omega arith

pub term_pos : (a b M : ℕ) → 0 < b → 0 < term a b M 0
term_pos a b M p = mul-pos (le_trans (zero-lt-suc 0) (le_of_eq (sym (pow-zero a)))) (falling_pos b M (M - 0) p (go M))
  where
    go : (M : ℕ) → M - 0 ≤ M
    go M = omega arith

pub follows_first : (y c s : ℕ) → IsFirst y c s → Follows y 0 0 c 0 s
unfolding squares error level
follows_first y c s f = record {
  size = f.size;
  c_sign = omega arith;
  s_sign = omega arith;
  near = λ a b N p q e e' l. f.near (base a b N) a (b * 2 ^ 11) (N + N) N (mul-pos p (pow_pos 11)) (term_law a (b * 2 ^ 11) (N + N)) (term_pos a (b * 2 ^ 11) (N + N) (mul-pos p (pow_pos 11))) (scaled a b e) (scaled' a b e') (le_trans few l) (half N);
}
  where
    few : 12 ≤ 600
    few = omega arith

    half : (N : ℕ) → N ≤ N + N
    half N = omega arith

    scaled : (a b : ℕ) → y * b ≤ a * 2 ^ 52 → y * (b * 2 ^ 11) ≤ a * 2 ^ 63
    scaled a b e = le_trans (le_of_eq (sym (mul_assoc y b (2 ^ 11)))) (le_trans (mul-le-mul_right (2 ^ 11) e) (le_of_eq (mul_assoc a (2 ^ 52) (2 ^ 11))))

    scaled' : (a b : ℕ) → a * 2 ^ 52 ≤ suc y * b → a * 2 ^ 63 ≤ suc y * (b * 2 ^ 11)
    scaled' a b e = le_trans (le_of_eq (sym (mul_assoc a (2 ^ 52) (2 ^ 11)))) (le_trans (mul-le-mul_right (2 ^ 11) e) (le_of_eq (mul_assoc (suc y) b (2 ^ 11))))

small_at : (j a b : ℕ) → j ≤ 10 → a ≤ 200 * b → 2 * (2 ^ j * a) ≤ 200 * (b * 2 ^ 11)
small_at j a b h k =
    le_trans (le_of_eq (sym (mul_assoc 2 (2 ^ j) a) ∙ ap (λ (x : ℕ). x * a) (mul_comm 2 (2 ^ j) ∙ sym (pow-suc 2 j))))
    (le_trans (mul-le-mul (pow_mono (go j h)) k) (le_of_eq (mul_comm (2 ^ 11) (200 * b) ∙ mul_assoc 200 b (2 ^ 11))))
  where
    go : (j : ℕ) → j ≤ 10 → suc j ≤ 11
    go j h = omega arith

rest_sign : (k n : ℕ) → n ≡ k % 2 → n ≤ 1
rest_sign k n e = omega arith

pub follows_next : (y j cn c sn s cn' c' sn' s' : ℕ) → y ≤ 200 * 2 ^ 52 → j ≤ 10 → Follows y j cn c sn s → IsDoubled cn c sn s cn' c' sn' s' → Follows y (suc j) cn' c' sn' s'
unfolding level error
follows_next y j cn c sn s cn' c' sn' s' Y J f t = record {
  size = next_squares c' s' (c * c + s * s) (sizes cn c sn s cn' c' sn' s' t) j f.size;
  c_sign = t.sign;
  s_sign = rest_sign (cn + sn) sn' t.sine_sign;
  near = λ a b N p q e e' l.
      after (level (base a b N) j) (2 ^ j * a) (b * 2 ^ 11) (base a b N 0) N (mul-pos p (pow_pos 11))
      (level_law (base a b N) a (b * 2 ^ 11) (N + N) j (term_law a (b * 2 ^ 11) (N + N)))
      (doubled_law (level (base a b N) j) (2 ^ j * a) (b * 2 ^ 11) (N + N) (level_law (base a b N) a (b * 2 ^ 11) (N + N) j (term_law a (b * 2 ^ 11) (N + N))))
      (small_at j a b J q) l (level_zero (base a b N) j) (term_pos a (b * 2 ^ 11) (N + N) (mul-pos p (pow_pos 11)))
      (error j) (plus cn c) (less cn c) (plus sn s) (less sn s) (plus cn' c') (less cn' c') (plus sn' s') (less sn' s') (8 * 2 ^ 63) (3 * error j + 9)
      (f.near a b N p q e e' l) (rounded_of cn c sn s cn' c' sn' s' f.c_sign f.s_sign t) totals;
}
  where
    totals : 8 * 2 ^ 63 + 2 * (error j * (plus cn c + less cn c + (plus sn s + less sn s) + error j)) + 2 ^ 63 ≤ 2 ^ 63 * (3 * error j + 9)
    totals = rw (whole cn c, whole sn s) (total (error j) c s (sum_most c s 0 (le_trans f.size (squares_most j J))) (error_most j J))

-- ---- from the last level to the series at the argument itself
law_at : (a b N j : ℕ) → 0 < b → j ≤ 11 → Law (level (base a b N) j) a (b * 2 ^ (11 - j)) N
law_at a b N j p J k h =
    eq_of_mul-eq-mul_left (2 ^ j) (pow_pos j) (b * 2 ^ (11 - j) * (suc k * level (base a b N) j (suc k))) (a * level (base a b N) j k)
    (turn (2 ^ j) b (2 ^ (11 - j)) (suc k * level (base a b N) j (suc k))
    ∙ ap (λ (x : ℕ). b * x * (suc k * level (base a b N) j (suc k))) (sym (pow-add 2 j (11 - j)) ∙ ap (λ (x : ℕ). 2 ^ x) (all j J))
    ∙ level_law (base a b N) a (b * 2 ^ 11) (N + N) j (term_law a (b * 2 ^ 11) (N + N)) k (go N k h)
    ∙ mul_assoc (2 ^ j) a (level (base a b N) j k))
  where
    go : (N k : ℕ) → k < N → k < N + N
    go N k h = omega arith

    all : (j : ℕ) → j ≤ 11 → j + (11 - j) ≡ 11
    all j J = omega arith

    turn : (q b r w : ℕ) → q * (b * r * w) ≡ b * (q * r) * w
    turn q b r w = simp (mul_assoc, mul_left_comm)

pub part_scaled : (u v : ℕ → ℕ) (N : ℕ) (t : Quarter) (x y : ℕ) → ((k : ℕ) → k ≤ N → u k * x ≡ v k * y) → x * part u N t ≡ y * part v N t
part_scaled u v N t x y h =
    sum_times x (λ (k : ℕ). at t k * u k) N
    ∙ sum_cong (λ (k : ℕ). x * (at t k * u k)) (λ (k : ℕ). y * (at t k * v k)) N (λ k l. turn (at t k) (u k) x ∙ ap (λ (z : ℕ). at t k * z) (h k l) ∙ sym (turn (at t k) (v k) y))
    ∙ sym (sum_times y (λ (k : ℕ). at t k * v k) N)
  where
    turn : (c w z : ℕ) → z * (c * w) ≡ c * (w * z)
    turn c w z = simp (mul_comm, mul_left_comm)

pub carry : (W X G p m P Q P' Q' e : ℕ) → 0 < W → X * P ≡ W * P' → X * Q ≡ W * Q' → Apart (p * W) (m * W) (P * G) (Q * G) (e * W) → Apart (p * X) (m * X) (P' * G) (Q' * G) (e * X)
carry W X G p m P Q P' Q' e w h k a = apart_cancel W w (rw (own p, own m, own e, other P P' h, other Q Q' k) at (apart_times X a))
  where
    own : (x : ℕ) → X * (x * W) ≡ W * (x * X)
    own x = simp (mul_comm, mul_left_comm)

    other : (x x' : ℕ) → X * x ≡ W * x' → X * (x * G) ≡ W * (x' * G)
    other x x' q = sym (mul_assoc X x G) ∙ ap (λ (z : ℕ). z * G) q ∙ mul_assoc W x' G

pub follows_last : (y turns cn c sn s : ℕ) → turns ≤ 11 → Follows y turns cn c sn s → IsCircle y turns cn c sn s
follows_last y j cn c sn s J f a b N p q e e' l = record {
  cosine = carry (base a b N 0) (t 0) (2 ^ 63) (plus cn c) (less cn c) (part v N east) (part v N west) (part t N east) (part t N west) (error j) pos (parts east) (parts west) (f.near a b N p q e e' l).cosine;
  sine = carry (base a b N 0) (t 0) (2 ^ 63) (plus sn s) (less sn s) (part v N north) (part v N south) (part t N north) (part t N south) (error j) pos (parts north) (parts south) (f.near a b N p q e e' l).sine;
}
  where
    v : ℕ → ℕ
    v = level (base a b N) j

    t : ℕ → ℕ
    t = term a (b * 2 ^ (11 - j)) N

    pos : 0 < base a b N 0
    pos = term_pos a (b * 2 ^ 11) (N + N) (mul-pos p (pow_pos 11))

    parts : (h : Quarter) → t 0 * part v N h ≡ base a b N 0 * part t N h
    parts h = part_scaled v t N h (t 0) (base a b N 0) (λ k l. proportion v t a (b * 2 ^ (11 - j)) N (mul-pos p (pow_pos (11 - j))) (law_at a b N j p J) (term_law a (b * 2 ^ (11 - j)) N) k l ∙ ap (λ (z : ℕ). t k * z) (level_zero (base a b N) j))

pub error_last : error 11 ≤ 2 ^ 22
unfolding error
error_last = leb→le (error 11) (2 ^ 22) tt

-- all eleven: at the argument itself
pub whole_circle : (y cn c sn s : ℕ) → IsCircle y 11 cn c sn s → (a b N : ℕ) → 0 < b → a ≤ 200 * b → y * b ≤ a * 2 ^ 52 → a * 2 ^ 52 ≤ suc y * b → 600 ≤ N → State (term a b N) (term a b N 0) N (2 ^ 63) (2 ^ 22) (plus cn c) (less cn c) (plus sn s) (less sn s)
whole_circle y cn c sn s i a b N p q e e' l =
    let h = subst (λ (z : ℕ). State (term a z N) (term a z N 0) N (2 ^ 63) (error 11) (plus cn c) (less cn c) (plus sn s) (less sn s)) (mul-one b) (i a b N p q e e' l) in
    record { cosine = apart_wider h.cosine (mul-le-mul_right (term a b N 0) error_last); sine = apart_wider h.sine (mul-le-mul_right (term a b N 0) error_last) }

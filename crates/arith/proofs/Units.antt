-- A double in units of 2 ^ -1074; of two doubles with one sign and one size, that they are the same; and what follows of a product with 1 or −1: it is exact. Assumes nothing.
use Rattle.std.proofs.Common.{◌≡◌, ℕ, zero, suc, ◌+◌, ◌-◌, ◌*◌, ◌/◌, ◌%◌, ◌^◌, ◌<◌, ◌≤◌, Bool, true, false, cond, not, ◌&&◌, T, eqb, ltb, leb, ℤ, pos, negsuc, sym, refl, ap, ◌∙◌, subst, le_of_eq, lt_of_lt_of_le, lt_of_le_of_lt, lt_irrefl, mul_assoc, lt_of_mul-lt-mul_right, mul-lt-mul_of_pos_right, mul-pos, zero-mul, mul-one, mul_right_comm, arith, ltb→lt, leb→le, pow_pos, pow-add}
use lib.Pow.{pow-lt}
use lib.Ieee.{Float, nan, inf, fin, binary64, unlike, up, down, size, round, sub, mul, neg, to_bits, of_bits, fits}
use lib.Ieee.Bits.{of_bits-to_bits}
use lib.Ieee.Exact.{HasValue, round_exact}
use lib.Ieee.Fits.{and_l, and_r, down_pos, round-fits, neg-fits}
use lib.Ieee.Nearest.{div_same}
use Rattle.arith.specs.Double.{◌⊕◌, ◌⊖◌, ◌⊗◌, bits, #1}

-- ---- a double in units of 2 ^ -1074: a number of 53 digits at most, times a power of two
abbrev pub U : ℕ
U = 2 ^ 1074

pow_le_back : (a l : ℕ) → 2 ^ a ≤ 2 ^ l → a ≤ l
pow_le_back a l h = leave (λ (g : suc l ≤ a). lt_irrefl (2 ^ l) (lt_of_lt_of_le (pow-lt g) h))
  where
    leave : (suc l ≤ a → ⊥) → a ≤ l
    leave f = omega arith

placed : (m : ℕ) (d : ℤ) → down d ≤ U → (j : ℕ) × (m * up d * U ≡ m * 2 ^ j * down d)
placed m (pos a) h = (a + 1074, mul_assoc m (2 ^ a) U ∙ ap (λ (x : ℕ). m * x) (sym (pow-add 2 a 1074)) ∙ sym (mul-one (m * 2 ^ (a + 1074))))
placed m (negsuc a) h =
    let l : suc a ≤ 1074 = pow_le_back (suc a) 1074 h in
    (1074 - suc a, ap (λ (x : ℕ). x * U) (mul-one m) ∙ ap (λ (x : ℕ). m * 2 ^ x) (back a l) ∙ ap (λ (x : ℕ). m * x) (pow-add 2 (1074 - suc a) (suc a)) ∙ sym (mul_assoc m (2 ^ (1074 - suc a)) (2 ^ suc a)))
  where
    back : (a : ℕ) → suc a ≤ 1074 → 1074 ≡ 1074 - suc a + suc a
    back a h = omega arith

-- the fraction c / d is m * 2 ^ j units
abbrev pub InUnits : ℕ → ℕ → Type 0
InUnits c d = (m : ℕ) × (j : ℕ) × (m < 2 ^ 53) × (c * U ≡ m * 2 ^ j * d)

pub in_units : (s : Bool) (m : ℕ) (d : ℤ) → T (fits binary64 (fin s m d)) → InUnits (m * up d) (down d)
unfolding fits
in_units s zero d h = (0, 0, pow_pos 53, ap (λ (x : ℕ). x * U) (zero-mul (up d)) ∙ sym (zero-mul (down d)))
in_units s (suc m) d h =
    let A = eqb (suc m % 2) 1 in
    let B = ltb (suc m) (2 ^ 53) in
    let C = leb (down d) U in
    let D = ltb (suc m * up d) (2 ^ 1024 * down d) in
    let p = placed (suc m) d (leb→le (down d) U (and_r (A && B) C (and_l (A && B && C) D h))) in
    (suc m, p.0, ltb→lt (suc m) (2 ^ 53) (and_r A B (and_l (A && B) C (and_l (A && B && C) D h))), p.1)

-- ---- of two doubles with one sign and one size

-- the bits of a finite double, from its sign and its size in units
abbrev pattern : Bool → ℕ → ℕ
pattern s n = cond s (2 ^ 63) 0 + (size n - 53) * 2 ^ 52 + n / 2 ^ (size n - 53)

pattern_is : (s : Bool) (m : ℕ) (e : ℤ) → to_bits binary64 (fin s m e) ≡ pattern s (m * up e * U / down e)
unfolding to_bits
pattern_is s m e = refl

pub same_number : (s : Bool) (m : ℕ) (e : ℤ) (n : ℕ) (d : ℤ) → T (fits binary64 (fin s m e)) → T (fits binary64 (fin s n d)) → m * up e * down d ≡ n * up d * down e → fin s m e ≡ fin s n d
same_number s m e n d f g h =
    sym (of_bits-to_bits binary64 (fin s m e) f)
    ∙ ap bits (pattern_is s m e ∙ ap (pattern s) (div_same (m * up e * U) (down e) (n * up d * U) (down d) (down_pos e) (down_pos d) scaled_up) ∙ sym (pattern_is s n d))
    ∙ of_bits-to_bits binary64 (fin s n d) g
  where
    scaled_up : m * up e * U * down d ≡ n * up d * U * down e
    scaled_up = mul_right_comm (m * up e) U (down d) ∙ ap (λ (z : ℕ). z * U) h ∙ mul_right_comm (n * up d) (down e) U

-- ---- a double rounded again, with either sign
sized : (s : Bool) (m : ℕ) (e : ℤ) → T (fits binary64 (fin s m e)) → (x : Float) → T (fits binary64 x) → HasValue x s (m * up e) (down e) → x ≡ fin s m e
sized s m e f nan g v = absurd v
sized s m e f (inf t) g v = absurd v
sized s m e f (fin t n d) g v = subst (λ (t : Bool). T (fits binary64 (fin t n d)) → fin t n d ≡ fin s m e) (sym v.0) (λ g. same_number s n d m e g f v.1) g

in_range : (s : Bool) (m : ℕ) (e : ℤ) → T (fits binary64 (fin s m e)) → m * up e < 2 ^ 1024 * down e
unfolding fits
in_range s zero e h = lt_of_le_of_lt (le_of_eq (zero-mul (up e))) (mul-pos (pow_pos 1024) (down_pos e))
in_range s (suc m) e h = ltb→lt (suc m * up e) (2 ^ 1024 * down e) (and_r (eqb (suc m % 2) 1 && ltb (suc m) (2 ^ 53) && leb (down e) U) (ltb (suc m * up e) (2 ^ 1024 * down e)) h)

round_again : (s : Bool) (m : ℕ) (e : ℤ) → T (fits binary64 (fin s m e)) → round binary64 s (m * up e) (down e) ≡ fin s m e
round_again s m e f =
    let u = in_units s m e f in
    sized s m e f (round binary64 s (m * up e) (down e)) (round-fits binary64 s (m * up e) (down e))
    (round_exact binary64 s (m * up e) (down e) u.0 u.1 (down_pos e) u.2 (below u.0 u.1 u.3) u.3)
  where
    below : (q j : ℕ) → m * up e * U ≡ q * 2 ^ j * down e → q * 2 ^ j < 2 ^ (1074 + 1024)
    below q j is =
        lt_of_mul-lt-mul_right (down e)
        (lt_of_le_of_lt (le_of_eq (sym is))
        (lt_of_lt_of_le (mul-lt-mul_of_pos_right (in_range s m e f) (pow_pos 1074))
        (le_of_eq (mul_right_comm (2 ^ 1024) (down e) U ∙ ap (λ (z : ℕ). z * down e) (sym (pow-add 2 1024 1074))))))

-- times 1 or −1 a double keeps its size
by_unit : (t : Bool) (x : Float) → T (fits binary64 x) → x ⊗ fin t 1 (pos 0) ≡ cond t (neg x) x
unfolding mul neg
by_unit true nan f = refl
by_unit false nan f = refl
by_unit true (inf true) f = refl
by_unit true (inf false) f = refl
by_unit false (inf true) f = refl
by_unit false (inf false) f = refl
by_unit t (fin s m e) f = go s t f
  where
    sized_alike : (s : Bool) → round binary64 s (m * up e * (1 * 1)) (down e * 1) ≡ round binary64 s (m * up e) (down e)
    sized_alike s = ap (λ (z : ℕ). round binary64 s z (down e * 1)) (mul-one (m * up e)) ∙ ap (λ (z : ℕ). round binary64 s (m * up e) z) (mul-one (down e))

    go : (s t : Bool) → T (fits binary64 (fin s m e)) → round binary64 (unlike s t) (m * up e * (1 * 1)) (down e * 1) ≡ cond t (fin (not s) m e) (fin s m e)
    go true true f = sized_alike false ∙ round_again false m e (neg-fits binary64 (fin true m e) f)
    go false true f = sized_alike true ∙ round_again true m e (neg-fits binary64 (fin false m e) f)
    go true false f = sized_alike true ∙ round_again true m e f
    go false false f = sized_alike false ∙ round_again false m e f

pub times_one : (x : Float) → T (fits binary64 x) → x ⊗ #1 ≡ x
unfolding of_bits
times_one x f = by_unit false x f

pub times_minus_one : (x : Float) → T (fits binary64 x) → x ⊗ neg #1 ≡ neg x
unfolding of_bits neg
times_minus_one x f = by_unit true x f

-- to take a double's negative away is to add it
pub less_negative : (x y : Float) → x ⊖ neg y ≡ x ⊕ y
unfolding sub neg
less_negative x y = ap (λ (z : Float). x ⊕ z) (twice y)
  where
    twice : (y : Float) → neg (neg y) ≡ y
    twice nan = refl
    twice (inf true) = refl
    twice (inf false) = refl
    twice (fin true m e) = refl
    twice (fin false m e) = refl

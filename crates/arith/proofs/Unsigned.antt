-- Doubles with a given sign: rounding keeps it, products have the sign by the rule, and sums of doubles whose sign is clear keep it clear. Assumes nothing.
use Rattle.std.proofs.Common.{◌≡◌, ℕ, zero, suc, ◌+◌, ◌-◌, ◌*◌, ◌/◌, ◌%◌, ◌^◌, ◌≤◌, Bool, true, false, cond, eqb, ltb, refl, ap, ◌∙◌, subst, zero-mul, arith, ltb-false, le-ltb}
use Prim.Native.Nat.{compare}
use lib.Ieee.{Float, nan, inf, fin, Format, binary64, prec, emax, low, size, nearest, up, down, odd, units, round, sum, add, mul, unlike, of_int, lt, of_bits}
use Rattle.arith.specs.Double.{◌⊕◌, ◌⊗◌, dbl, #0}
use Rattle.arith.proofs.Flags.{not_left, cases}

-- the sign is s, or there is none
abbrev pub Signed : Bool → Float → Type 0
Signed s nan = Unit {0}
Signed s (inf t) = t ≡ s
Signed s (fin t m e) = t ≡ s

-- the sign is clear, or there is none
abbrev pub Unsigned : Float → Type 0
Unsigned x = Signed false x

-- ---- a rounded number keeps the sign that it is given
odd_signed : (d : ℕ) (s : Bool) (q k l : ℕ) → Signed s (odd d s q k l)
unfolding odd
odd_signed d s zero k l = refl
odd_signed d s (suc q) k l = refl

either_signed : (t s : Bool) (x : Float) → Signed s x → Signed s (cond t x (inf s))
either_signed true s x u = u
either_signed false s x u = refl

units_signed : (f : Format) (s : Bool) (q k : ℕ) → Signed s (units f s q k)
unfolding units
units_signed f s q k = either_signed (ltb (q * 2 ^ k) (2 ^ (low f + suc (emax f)))) s (odd (suc (prec f)) s q k (low f)) (odd_signed (suc (prec f)) s q k (low f))

pub round_signed : (f : Format) (s : Bool) (a b : ℕ) → Signed s (round f s a b)
unfolding round
round_signed f s a b =
    let n = a * 2 ^ low f in
    let k = size (n / b) - prec f in
    let u = b * 2 ^ k in
    units_signed f s (nearest (n / u) (compare (n % u * 2) u)) k

-- ---- sums and whole numbers
pub dbl_unsigned : (n : ℕ) → Unsigned (dbl n)
unfolding of_int
dbl_unsigned n = round_signed binary64 false n 1

-- a double that is not below zero may be -0
pub sum_unsigned : (x y : Float) → Unsigned x → lt y #0 ≡ false → Unsigned (x ⊕ y)
unfolding add sum lt of_bits
sum_unsigned nan y u v = tt
sum_unsigned (inf true) y u v = not_left u
sum_unsigned (inf false) nan u v = tt
sum_unsigned (inf false) (inf true) u v = tt
sum_unsigned (inf false) (inf false) u v = refl
sum_unsigned (inf false) (fin t n d) u v = refl
sum_unsigned (fin true m e) y u v = not_left u
sum_unsigned (fin false m e) nan u v = tt
sum_unsigned (fin false m e) (inf true) u v = not_left v
sum_unsigned (fin false m e) (inf false) u v = refl
sum_unsigned (fin false m e) (fin false n d) u v = round_signed binary64 false (m * up e * down d + n * up d * down e) (down e * down d)
sum_unsigned (fin false m e) (fin true n d) u v =
    let a = m * up e * down d in
    let b = n * up d * down e in
    rw (le-ltb a b (none b a zero_size)) (round_signed binary64 false (a - b) (down e * down d))
  where
    zero_left : (x z : ℕ) → x * 1 + z ≤ 0 → x ≡ 0
    zero_left x z h = omega arith

    zero_size : n * up d * down e ≡ 0
    zero_size = ap (λ (x : ℕ). x * down e) (zero_left (n * up d) (0 * 1 * down d) (ltb-false 0 (n * up d * 1 + 0 * 1 * down d) v)) ∙ zero-mul (down e)

    none : (z a : ℕ) → z ≡ 0 → z ≤ a
    none z a h = omega arith

-- ---- products
alike : {a b s t : Bool} → a ≡ s → b ≡ t → unlike a b ≡ unlike s t
alike {b = b} {s = s} p q = ap (λ (z : Bool). unlike z b) p ∙ ap (λ (z : Bool). unlike s z) q

product_signed : (s t : Bool) (x y : Float) → Signed s x → Signed t y → Signed (unlike s t) (x ⊗ y)
unfolding mul
product_signed s t nan y p q = tt
product_signed s t (inf a) nan p q = tt
product_signed s t (inf a) (inf b) p q = alike p q
product_signed s t (inf a) (fin b n d) p q = cases (Signed (unlike s t)) (eqb n 0) nan (inf (unlike a b)) (λ _. tt) (λ _. alike p q)
product_signed s t (fin a m e) nan p q = tt
product_signed s t (fin a m e) (inf b) p q = cases (Signed (unlike s t)) (eqb m 0) nan (inf (unlike a b)) (λ _. tt) (λ _. alike p q)
product_signed s t (fin a m e) (fin b n d) p q =
    subst (λ (z : Bool). Signed z (fin a m e ⊗ fin b n d)) (alike p q) (round_signed binary64 (unlike a b) (m * up e * (n * up d)) (down e * down d))

-- the product of two multiples of c, by factors whose signs are clear
pub multiples_unsigned : (x y c : Float) → Unsigned x → Unsigned y → Unsigned (x ⊗ c ⊗ (y ⊗ c))
multiples_unsigned x y c p q = go c (λ s h. (product_signed false s x c p h, product_signed false s y c q h))
  where
    equal : (s : Bool) → Signed s (x ⊗ c) × Signed s (y ⊗ c) → Unsigned (x ⊗ c ⊗ (y ⊗ c))
    equal true h = product_signed true true (x ⊗ c) (y ⊗ c) h.0 h.1
    equal false h = product_signed false false (x ⊗ c) (y ⊗ c) h.0 h.1

    go : (z : Float) → ((s : Bool) → Signed s z → Signed (unlike false s) (x ⊗ c) × Signed (unlike false s) (y ⊗ c)) → Unsigned (x ⊗ c ⊗ (y ⊗ c))
    go nan h = equal false (h false tt)
    go (inf s) h = equal (unlike false s) (h s refl)
    go (fin s m e) h = equal (unlike false s) (h s refl)

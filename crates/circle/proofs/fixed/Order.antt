-- The order of doubles with their signs, and a double between two. Assumes nothing.
use mathlib.Core.Path.{◌≡◌, sym, ap, ◌∙◌, subst}
use mathlib.Core.Logic.{◌⊎◌, inl, inr}
use mathlib.Core.Bool.{Bool, true, false, ◌&&◌, ◌||◌, true≢false}
use Prim.Native.Nat.{ℕ, zero, suc, ◌+◌, ◌*◌, ◌≤◌, ◌<◌, zero-le}
use native.Mathlib.Nat.{le_trans, le_of_eq, le_of_lt, add-mul, mul_right_comm, mul-le-mul_right, le_of_mul-le-mul_right, zero-mul, zero-lt-suc}
use native.Mathlib.Omega.{arith}
use lib.Dec.{T, ltb, eqb, eqb→eq, ltb→lt, lt→ltb}
use lib.IntN.{ℤ, pos}
use lib.Ieee.{Float, nan, inf, fin, up, down, neg, lt, le}
use lib.Ieee.Fits.{and_l, and_r}
use lib.Ieee.Exact.{HasValue}
use lib.Ieee.Positive.{den, den_pos, positive}
use lib.Ieee.Scale.{finite}
use Rattle.circle.specs.Within.{plus, less}
use Rattle.circle.specs.Inside.Fixed.{IsDifference, Lies}

or_split : (a b : Bool) → T (a || b) → T a ⊎ T b
or_split true b t = inl tt
or_split false b t = inr t

-- below or level
more : (a b : ℕ) (w : Bool) → T (ltb a b || (eqb a b && w)) → a ≤ b
more a b w t = elim (or_split (ltb a b) (eqb a b && w) t) [ inl u ↦ le_of_lt (ltb→lt a b u) | inr u ↦ le_of_eq (eqb→eq a b (and_l (eqb a b) w u)) ]

fewer : (a b : ℕ) (w : Bool) → T (ltb b a || (eqb a b && w)) → b ≤ a
fewer a b w t = elim (or_split (ltb b a) (eqb a b && w) t) [ inl u ↦ le_of_lt (ltb→lt b a u) | inr u ↦ le_of_eq (sym (eqb→eq a b (and_l (eqb a b) w u))) ]

both_zero : (a b : ℕ) → T (eqb a b && eqb a 0) → a + b ≤ 0
both_zero a b t = go (eqb→eq a b (and_l (eqb a b) (eqb a 0) t)) (eqb→eq a 0 (and_r (eqb a b) (eqb a 0) t))
  where
    go : a ≡ b → a ≡ 0 → a + b ≤ 0
    go e f = omega arith

pub ordered : (x y : Float) → T (finite x) → T (finite y) → T (le x y) → plus x * den y + less y * den x ≤ plus y * den x + less x * den y
unfolding le
ordered nan y f g h = absurd f
ordered (inf s) y f g h = absurd f
ordered (fin s m e) nan f g h = absurd g
ordered (fin s m e) (inf t) f g h = absurd g
ordered (fin false m e) (fin false n d) f g h = go (m * up e * down d) (n * up d * down e) (0 * down e) (0 * down d) (zero-mul (down e)) (more (m * up e * down d) (n * up d * down e) true h)
  where
    go : (a b y z : ℕ) → y ≡ 0 → a ≤ b → a + y ≤ b + z
    go a b y z e l = omega arith
ordered (fin false m e) (fin true n d) f g h = le_trans (both_zero (m * up e * down d) (n * up d * down e) h) zero-le
ordered (fin true m e) (fin false n d) f g h = go (0 * down d) (0 * down e) (n * up d * down e + m * up e * down d) (zero-mul (down d)) (zero-mul (down e))
  where
    go : (y z b : ℕ) → y ≡ 0 → z ≡ 0 → y + z ≤ b
    go y z b e f = omega arith
ordered (fin true m e) (fin true n d) f g h = go (m * up e * down d) (n * up d * down e) (0 * down d) (0 * down e) (zero-mul (down d)) (fewer (m * up e * down d) (n * up d * down e) true h)
  where
    go : (a b y z : ℕ) → y ≡ 0 → b ≤ a → y + b ≤ z + a
    go a b y z e l = omega arith

-- what lies between two finite doubles is finite
between : (l x u : Float) → T (finite l) → T (finite u) → T (le l x) → T (le x u) → T (finite x)
unfolding le
between nan x u f g h k = absurd f
between (inf s) x u f g h k = absurd f
between (fin s m e) x nan f g h k = absurd g
between (fin s m e) x (inf t) f g h k = absurd g
between (fin s m e) nan (fin t n d) f g h k = absurd h
between (fin s m e) (inf true) (fin t n d) f g h k = absurd h
between (fin s m e) (inf false) (fin t n d) f g h k = absurd k
between (fin s m e) (fin w o c) (fin t n d) f g h k = tt

-- ---- from two bounds as doubles to the same as whole numbers
pub difference_more : (r : Float) (n c : ℕ) → HasValue r false n c → IsDifference r n 0 c
difference_more nan n c v = absurd v
difference_more (inf s) n c v = absurd v
difference_more (fin true m e) n c v = absurd (true≢false v.0)
difference_more (fin false m e) n c v = record { number = tt; value = go (m * up e * c) (n * down e) (0 * down e) (0 * c) (zero-mul (down e)) (zero-mul c) v.1 }
  where
    go : (a b y z : ℕ) → y ≡ 0 → z ≡ 0 → a ≡ b → a + y ≡ b + z
    go a b y z e f g = omega arith

pub difference_less : (r : Float) (n c : ℕ) → HasValue r true n c → IsDifference r 0 n c
difference_less nan n c v = absurd v
difference_less (inf s) n c v = absurd v
difference_less (fin false m e) n c v = absurd (true≢false (sym v.0))
difference_less (fin true m e) n c v = record { number = tt; value = go (m * up e * c) (n * down e) (0 * down e) (0 * c) (zero-mul (down e)) (zero-mul c) v.1 }
  where
    go : (a b y z : ℕ) → y ≡ 0 → z ≡ 0 → a ≡ b → z + b ≡ y + a
    go a b y z e f g = omega arith

pub opposite : (r : Float) (p q c : ℕ) → IsDifference r p q c → IsDifference (neg r) q p c
unfolding neg
opposite nan p q c d = absurd d.number
opposite (inf s) p q c d = absurd d.number
opposite (fin false m e) p q c d = record { number = tt; value = go (m * up e * c) (0 * c) (q * down e) (p * down e) d.value }
  where
    go : (a z q p : ℕ) → a + q ≡ p + z → z + p ≡ q + a
    go a z q p h = omega arith
opposite (fin true m e) p q c d = record { number = tt; value = go (m * up e * c) (0 * c) (q * down e) (p * down e) d.value }
  where
    go : (a z q p : ℕ) → z + q ≡ p + a → a + p ≡ q + z
    go a z q p h = omega arith

-- x ≤ y for x = (p - q) / c with the denominator d, and y of the denominator f
cleared : (p q c d f px lx py ly : ℕ) → 0 < d → px * c + q * d ≡ p * d + lx * c → px * f + ly * d ≤ py * d + lx * f → p * f + ly * c ≤ py * c + q * f
cleared p q c d f px lx py ly D v h =
    le_of_mul-le-mul_right {k = d}
    (go (px * f * c) (lx * f * c) (ly * d * c) (py * d * c) (p * d * f) (q * d * f) ((p * f + ly * c) * d) ((py * c + q * f) * d) (add-mul (p * f) (ly * c) d ∙ ap (λ (z : ℕ). z + ly * c * d) (mul_right_comm p f d) ∙ ap (λ (z : ℕ). p * d * f + z) (mul_right_comm ly c d)) (add-mul (py * c) (q * f) d ∙ ap (λ (z : ℕ). z + q * f * d) (mul_right_comm py c d) ∙ ap (λ (z : ℕ). py * d * c + z) (mul_right_comm q f d)) times value)
    D
  where
    times : px * f * c + ly * d * c ≤ py * d * c + lx * f * c
    times = le_trans (le_of_eq (sym (add-mul (px * f) (ly * d) c))) (le_trans (mul-le-mul_right c h) (le_of_eq (add-mul (py * d) (lx * f) c)))

    value : px * f * c + q * d * f ≡ p * d * f + lx * f * c
    value = ap (λ (z : ℕ). z + q * d * f) (mul_right_comm px f c) ∙ sym (add-mul (px * c) (q * d) f) ∙ ap (λ (z : ℕ). z * f) v ∙ add-mul (p * d) (lx * c) f ∙ ap (λ (z : ℕ). p * d * f + z) (mul_right_comm lx c f)

    go : (a b x y u w s t : ℕ) → s ≡ u + x → t ≡ y + w → a + x ≤ y + b → a + w ≡ u + b → s ≤ t
    go a b x y u w s t i j h k = omega (arith, i, j, h, k)

-- the same for y ≤ x
cleared_up : (p q c d f px lx py ly : ℕ) → 0 < d → px * c + q * d ≡ p * d + lx * c → py * d + lx * f ≤ px * f + ly * d → py * c + q * f ≤ p * f + ly * c
cleared_up p q c d f px lx py ly D v h =
    le_of_mul-le-mul_right {k = d}
    (go (px * f * c) (lx * f * c) (ly * d * c) (py * d * c) (p * d * f) (q * d * f) ((py * c + q * f) * d) ((p * f + ly * c) * d) (add-mul (py * c) (q * f) d ∙ ap (λ (z : ℕ). z + q * f * d) (mul_right_comm py c d) ∙ ap (λ (z : ℕ). py * d * c + z) (mul_right_comm q f d)) (add-mul (p * f) (ly * c) d ∙ ap (λ (z : ℕ). z + ly * c * d) (mul_right_comm p f d) ∙ ap (λ (z : ℕ). p * d * f + z) (mul_right_comm ly c d)) times value)
    D
  where
    times : py * d * c + lx * f * c ≤ px * f * c + ly * d * c
    times = le_trans (le_of_eq (sym (add-mul (py * d) (lx * f) c))) (le_trans (mul-le-mul_right c h) (le_of_eq (add-mul (px * f) (ly * d) c)))

    value : px * f * c + q * d * f ≡ p * d * f + lx * f * c
    value = ap (λ (z : ℕ). z + q * d * f) (mul_right_comm px f c) ∙ sym (add-mul (px * c) (q * d) f) ∙ ap (λ (z : ℕ). z * f) v ∙ add-mul (p * d) (lx * c) f ∙ ap (λ (z : ℕ). p * d * f + z) (mul_right_comm lx c f)

    go : (a b x y u w s t : ℕ) → s ≡ y + w → t ≡ u + x → y + b ≤ a + x → a + w ≡ u + b → s ≤ t
    go a b x y u w s t i j h k = omega (arith, i, j, h, k)

-- what `guarded` gives lies between its bounds (p - q) / c and (s - t) / c
pub lies_of : (low high r : Float) (p q s t c : ℕ) → IsDifference low p q c → IsDifference high s t c → p + t ≤ s + q → (r ≡ low) ⊎ (T (le low r) × T (le r high)) → Lies r p q s t c
lies_of low high r p q s t c l u o (inl e) = subst (λ (z : Float). Lies z p q s t c) (sym e) (record {
  number = l.number;
  from = le_of_eq (sym l.value);
  upto = go (plus low * c) (less low * c) (p * den low) (q * den low) (s * den low) (t * den low) l.value (le_trans (le_of_eq (sym (add-mul p t (den low)))) (le_trans (mul-le-mul_right (den low) o) (le_of_eq (add-mul s q (den low)))));
})
  where
    go : (a b p q s t : ℕ) → a + q ≡ p + b → p + t ≤ s + q → a + t ≤ s + b
    go a b p q s t h k = omega (arith, h, k)
lies_of low high r p q s t c l u o (inr h) =
    let f = between low r high l.number u.number h.0 h.1 in
    record {
      number = f;
      from = cleared p q c (den low) (den r) (plus low) (less low) (plus r) (less r) (den_pos low) l.value (ordered low r l.number f h.0);
      upto = cleared_up s t c (den high) (den r) (plus high) (less high) (plus r) (less r) (den_pos high) u.value (ordered r high f u.number h.1);
    }

-- ---- a double above zero that is finite
pub above_of : (x : Float) → T (lt (fin false 0 (pos 0)) x) → T (lt x (inf false)) → T (positive x)
unfolding lt
above_of nan h k = absurd h
above_of (inf true) h k = absurd h
above_of (inf false) h k = absurd k
above_of (fin true m e) h k = absurd h
above_of (fin false zero e) h k = absurd (go (0 * 1 * down e) (0 * up e * 1) (ap (λ (x : ℕ). x * 1) (zero-mul (up e))) (ltb→lt (0 * 1 * down e) (0 * up e * 1) h))
  where
    go : (a b : ℕ) → b ≡ 0 → a < b → ⊥
    go a b e l = omega arith
above_of (fin false (suc m) e) h k = lt→ltb 0 (suc m) (zero-lt-suc m)

pub below_finite : (x : Float) (s : Bool) (m : ℕ) (e : ℤ) → T (lt x (fin s m e)) → T (lt x (inf false))
unfolding lt
below_finite nan s m e h = h
below_finite (inf true) s m e h = tt
below_finite (inf false) s m e h = h
below_finite (fin t n d) s m e h = tt

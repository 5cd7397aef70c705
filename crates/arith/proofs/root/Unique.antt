-- No second double is nearest to a root: `NearestRoot` alone determines it. Assumes nothing.
use Rattle.std.proofs.Common.{◌≡◌, ℕ, ◌+◌, ◌*◌, ◌<◌, ◌≤◌, true, false, T, sym, refl, ap, ◌∙◌, le_of_eq, lt_of_lt_of_le, lt_of_le_of_lt, le_of_lt, lt_irrefl, mul_comm, add_comm, le_antisymm, lt_of_not-le, lt→ltb}
use native.Mathlib.Decide.{dec_le}
use lib.Ieee.{Float, nan, inf, fin, up, down, binary64, lt, fits}
use lib.Ieee.Positive.{num, den, positive, positive-finite}
use Rattle.arith.specs.NearestRoot.{NearestRoot, total}
use Rattle.arith.proofs.Units.{same_number}

total_is : (r s : Float) → T (positive s) → total r s ≡ num r * den s + num s * den r
total_is r nan q = absurd q
total_is r (inf t) q = absurd q
total_is r (fin true n d) q = absurd q
total_is r (fin false n d) q = refl

module _ (r s : Float) (p : T (positive r)) (q : T (positive s)) where
  total_comm : total s r ≡ total r s
  total_comm = total_is s r p ∙ add_comm (num s * den r) (num r * den s) ∙ sym (total_is r s q)

equal_numbers : (r s : Float) → T (positive r) → T (positive s) → T (fits binary64 r) → T (fits binary64 s) → num r * den s ≡ num s * den r → r ≡ s
equal_numbers nan s p q f g e = absurd p
equal_numbers (inf t) s p q f g e = absurd p
equal_numbers (fin true m d) s p q f g e = absurd p
equal_numbers (fin false m d) nan p q f g e = absurd q
equal_numbers (fin false m d) (inf t) p q f g e = absurd q
equal_numbers (fin false m d) (fin true n k) p q f g e = absurd q
equal_numbers (fin false m d) (fin false n k) p q f g e = same_number false m d n k f g e

cross_lt : (r s : Float) → T (positive r) → T (positive s) → num r * den s < num s * den r → T (lt r s)
unfolding lt
cross_lt nan s p q h = absurd p
cross_lt (inf t) s p q h = absurd p
cross_lt (fin true m e) s p q h = absurd p
cross_lt (fin false m e) nan p q h = absurd q
cross_lt (fin false m e) (inf t) p q h = absurd q
cross_lt (fin false m e) (fin true n d) p q h = absurd q
cross_lt (fin false m e) (fin false n d) p q h = lt→ltb (m * up e * down d) (n * up d * down e) h

-- of two nearest doubles neither is the lower one: the root would lie on both sides of their middle
not_lower : (x r s : Float) → NearestRoot x r → NearestRoot x s → num r * den s < num s * den r → ⊥
not_lower x r s a b h =
    let order = cross_lt r s a.above_zero b.above_zero h in
    let below = a.than_greater s b.double (positive-finite s b.above_zero) order in
    let above = b.than_less r a.double (positive-finite r a.above_zero) order in
    lt_irrefl (total r s * total r s * den x) (lt_of_le_of_lt (le_of_eq (sym (ap (λ (z : ℕ). z * z * den x) (total_comm r s a.above_zero b.above_zero)))) (lt_of_lt_of_le above (le_of_lt (lt_of_le_of_lt (le_of_eq (ap (λ (z : ℕ). 4 * num x * (z * z)) (mul_comm (den s) (den r)))) below))))

pub nearest_unique : (x r s : Float) → NearestRoot x r → NearestRoot x s → r ≡ s
nearest_unique x r s a b = go (dec_le (num s * den r) (num r * den s)) (dec_le (num r * den s) (num s * den r))
  where
    go : Dec (num s * den r ≤ num r * den s) → Dec (num r * den s ≤ num s * den r) → r ≡ s
    go (yes g) (yes h) = equal_numbers r s a.above_zero b.above_zero a.double b.double (le_antisymm h g)
    go (yes g) (no f) = absurd (not_lower x s r b a (lt_of_not-le f))
    go (no f) h = absurd (not_lower x r s a b (lt_of_not-le f))

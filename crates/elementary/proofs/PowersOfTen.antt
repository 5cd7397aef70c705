-- What `Near` says of a power of ten. Assumes nothing.
use mathlib.Core.Path.{◌≡◌, sym, ap, ◌∙◌}
use mathlib.Core.Bool.{Bool, true, false, ◌&&◌}
use Prim.Native.Nat.{ℕ, zero, suc, ◌+◌, ◌*◌, ◌^◌, ◌≤◌, ◌<◌}
use native.Mathlib.Nat.{le_trans, le_of_eq, lt_irrefl, lt_of_lt_of_le, lt_of_not-le, mul-one, pow-zero, pow-suc, pow-le-pow_right, zero-lt-suc}
use native.Mathlib.Decide.{dec_le}
use native.Mathlib.Omega.{arith}
use lib.Dec.{T, leb, leb→le, le→leb}
use lib.Pow.{pow-add}
use lib.Ieee.{Float}
use lib.Ieee.Fits.{and_l, and_r}
use lib.Ieee.Positive.{num, den}
use lib.Ieee.Scale.{finite}
use Rattle.circle.specs.Within.{plus, less}
use Rattle.logarithms.specs.Log10.{Near}
use Rattle.elementary.specs.Examples.{is_log_of_power, AtPowersOfTen}
use Rattle.logarithms.proofs.Powers.{power_pos, pow_of_pow}

-- powers of ten are in the order of their exponents
exponents : (a b : ℕ) → 10 ^ a ≤ 10 ^ b → a ≤ b
exponents a b h = elim (dec_le a b) [ yes y ↦ y | no f ↦ absurd (lt_irrefl (10 ^ b) (lt_of_lt_of_le more (le_trans (pow-le-pow_right (zero-lt-suc 9) (lt_of_not-le f)) h))) ]
  where
    more : 10 ^ b < 10 ^ suc b
    more = rw (pow-suc 10 b) (go (10 ^ b) (power_pos 10 b (zero-lt-suc 9)))
      where
        go : (x : ℕ) → 0 < x → x < x * 10
        go x h = omega arith

one_power : (n : ℕ) → 1 ^ n ≡ 1
one_power zero = pow-zero 1
one_power (suc n) = pow-suc 1 n ∙ mul-one (1 ^ n) ∙ one_power n

both : (a b : Bool) → T a → T b → T (a && b)
both true b s t = t
both false b s t = s

-- with x = 10 ^ k both sides are powers of ten
module _ (X D k n : ℕ) (is : X ≡ 10 ^ k) (whole : D ≡ 1) where
  raised : X ^ n ≡ 10 ^ (k * n)
  raised = ap (λ (z : ℕ). z ^ n) is ∙ pow_of_pow 10 k n

  unit : D ^ n ≡ 1
  unit = ap (λ (z : ℕ). z ^ n) whole ∙ one_power n

  pub left : (q : ℕ) → X ^ n * 10 ^ q ≡ 10 ^ (k * n + q)
  left q = ap (λ (z : ℕ). z * 10 ^ q) raised ∙ sym (pow-add 10 (k * n) q)

  pub right : (s : ℕ) → 10 ^ s * D ^ n ≡ 10 ^ s
  right s = ap (λ (z : ℕ). 10 ^ s * z) unit ∙ mul-one (10 ^ s)

  pub other : (s : ℕ) → 10 ^ s * X ^ n ≡ 10 ^ (s + k * n)
  other s = ap (λ (z : ℕ). 10 ^ s * z) raised ∙ sym (pow-add 10 s (k * n))

module _ (x r : Float) (k : ℕ) (is : num x ≡ 10 ^ k) (whole : den x ≡ 1) where
  -- the exponents of the two claims
  abbrev n : ℕ
  n = den r * 2 ^ 20

  abbrev low : ℕ
  low = k * n + less r * 2 ^ 20

  abbrev low' : ℕ
  low' = plus r * 2 ^ 20 + den r

  abbrev high : ℕ
  high = plus r * 2 ^ 20

  abbrev high' : ℕ
  high' = less r * 2 ^ 20 + den r + k * n

  from : Near x r → T (is_log_of_power k r)
  from h =
      both (finite r && leb low low') (leb high high')
      (both (finite r) (leb low low') h.number (le→leb low low' (exponents low low' (le_trans (le_of_eq (sym (left (num x) (den x) k n is whole (less r * 2 ^ 20)))) (le_trans h.below (le_of_eq (right (num x) (den x) k n is whole low')))))))
      (le→leb high high' (exponents high high' (le_trans (le_of_eq (sym (right (num x) (den x) k n is whole high))) (le_trans h.above (le_of_eq (other (num x) (den x) k n is whole (less r * 2 ^ 20 + den r)))))))

  to : T (is_log_of_power k r) → Near x r
  to t =
      let u = and_l (finite r && leb low low') (leb high high') t in
      record {
        number = and_l (finite r) (leb low low') u;
        below = le_trans (le_of_eq (left (num x) (den x) k n is whole (less r * 2 ^ 20))) (le_trans (pow-le-pow_right (zero-lt-suc 9) (leb→le low low' (and_r (finite r) (leb low low') u))) (le_of_eq (sym (right (num x) (den x) k n is whole low'))));
        above = le_trans (le_of_eq (right (num x) (den x) k n is whole high)) (le_trans (pow-le-pow_right (zero-lt-suc 9) (leb→le high high' (and_r (finite r && leb low low') (leb high high') t))) (le_of_eq (sym (other (num x) (den x) k n is whole (less r * 2 ^ 20 + den r)))));
      }

pub at_powers_of_ten : AtPowersOfTen
at_powers_of_ten x r k is whole = (from x r k is whole, to x r k is whole)

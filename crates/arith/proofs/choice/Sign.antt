-- The pattern of a double with its sign's bit cleared is that of its absolute value. Assumes nothing.
use Rattle.std.proofs.Common.{◌≡◌, ℕ, zero, suc, ◌+◌, ◌-◌, ◌*◌, ◌/◌, ◌%◌, ◌^◌, ◌<◌, Bool, true, false, cond, not, T, eqb, ltb, leb, sym, refl, ap, ◌∙◌, subst, arith}
use lib.Bits.{bit_and, and_mask}
use lib.Ieee.{Float, nan, inf, binary64, odd, of_fields, of_bits, to_bits, nan_bits, is_nan, fits}
use lib.Ieee.Bits.{of_bits-to_bits, nan_bits_is, nan_bits_above}
use Rattle.arith.specs.Double.{bits}
use Rattle.arith.specs.Choice.{abs}
use Rattle.arith.proofs.Fields.{bits_fields, bits_unsigned}

abs_odd : (d : ℕ) (s : Bool) (q k l : ℕ) → abs (odd d s q k l) ≡ odd d false q k l
unfolding abs odd
abs_odd d s zero k l = refl
abs_odd d s (suc q) k l = refl

abs_fields : (s : Bool) (x t : ℕ) → abs (of_fields binary64 s x t) ≡ of_fields binary64 false x t
unfolding abs of_fields
abs_fields s zero t = abs_odd 53 s t 0 1074
abs_fields s (suc x) t = go (eqb (suc x) 2047) (eqb t 0)
  where
    go : (a b : Bool) → abs (cond a (cond b (inf s) nan) (odd 53 s (2 ^ 52 + t) x 1074)) ≡ cond a (cond b (inf false) nan) (odd 53 false (2 ^ 52 + t) x 1074)
    go true true = refl
    go true false = refl
    go false b = abs_odd 53 s (2 ^ 52 + t) x 1074

cleared : (b : ℕ) → bits (b % 2 ^ 63) ≡ abs (bits b)
cleared b =
    bits_unsigned (b % 2 ^ 63) short
    ∙ ap (λ (t : ℕ). of_fields binary64 false (b % 2 ^ 63 / 2 ^ 52) t) digits
    ∙ sym (ap abs (bits_fields b) ∙ abs_fields (leb (2 ^ 63) b) (b % 2 ^ 63 / 2 ^ 52) (b % 2 ^ 52))
  where
    short : b % 2 ^ 63 < 2 ^ 63
    short = omega arith

    digits : b % 2 ^ 63 % 2 ^ 52 ≡ b % 2 ^ 52
    digits = omega arith

pub mask : (b : ℕ) → bit_and b (2 ^ 63 - 1) ≡ b % 2 ^ 63
mask b = and_mask b 63

pub abs_nan : (x : Float) → x ≡ nan → x ≡ abs x
unfolding abs
abs_nan x is = is ∙ sym (ap abs is)

module _ (x : Float) (held : T (fits binary64 x)) where
  pub cleared_is : bits (bit_and (to_bits binary64 x) (2 ^ 63 - 1)) ≡ abs x
  cleared_is = ap (of_bits binary64) (mask (to_bits binary64 x)) ∙ cleared (to_bits binary64 x) ∙ ap abs (of_bits-to_bits binary64 x held)

  pub cleared_no_nan : T (not (is_nan x)) → T (not (nan_bits binary64 (bit_and (to_bits binary64 x) (2 ^ 63 - 1))))
  cleared_no_nan h = subst (λ (t : Bool). T (not t)) (sym same) h
    where
      b : ℕ
      b = to_bits binary64 x

      twice : b % 2 ^ 63 % 2 ^ 63 ≡ b % 2 ^ 63
      twice = omega arith

      same : nan_bits binary64 (bit_and b (2 ^ 63 - 1)) ≡ is_nan x
      same =
          ap (nan_bits binary64) (mask b)
          ∙ nan_bits_above binary64 (b % 2 ^ 63)
          ∙ ap (λ (y : ℕ). ltb (2047 * 2 ^ 52) y) twice
          ∙ sym (nan_bits_above binary64 b)
          ∙ nan_bits_is binary64 b
          ∙ ap is_nan (of_bits-to_bits binary64 x held)

-- `arctangents::ranged_arctangent` meets its contract. Assumes nothing.
use mathlib.Core.Path.{sym, ap, ◌∙◌, subst}
use Prim.Native.Nat.{ℕ, ◌+◌, ◌*◌, ◌^◌, ◌≤◌, zero-le}
use native.Mathlib.Nat.{le_trans, le_of_eq, zero-mul, lt_irrefl}
use native.Mathlib.Omega.{arith}
use lib.Dec.{leb→le}
use lib.Ieee.{of_bits}
use lib.Ieee.Positive.{num, den}
use Rattle.arctangents.specs.Arctangent.{NotBelow}
use Rattle.arctangents.specs.Inside.ArctangentValues as ArctangentValues
use Rattle.arctangents.proofs.Range.{is_zero, whole_zero, zero_is}
use Rattle.arctangents.proofs.ranged_arctangent.Goals as goal

pub returns-then-x : goal.returns-then-x
unfolding ArctangentValues.ranged_arctangent
returns-then-x c = record { arctangent = c.arctangent_above_zero.ensures.arctangent; value = rw (c.if-x.true, c.arctangent_above_zero.ensures.value) }

pub returns-else-x : goal.returns-else-x
unfolding ArctangentValues.ranged_arctangent of_bits
returns-else-x c =
    let x = c.args.x in
    let z = is_zero x c.requires.not_negative c.if-x.false in
    let w = whole_zero x c.requires.not_negative c.requires.finite c.if-x.false in record {
      arctangent = record {
        number = w.number;
        not_negative = w.none;
        low = 0;
        up = 2 ^ 18;
        low_near = le_trans (le_of_eq (ap (λ (y : ℕ). y * 2 ^ 58) z ∙ zero-mul (2 ^ 58))) zero-le;
        up_near = more (2 ^ 18 * den x) (num x * 2 ^ 58);
        low_upto_two = zero-le;
        up_upto_two = leb→le (2 ^ 18) (2 ^ 59) tt;
        from_below = λ h. absurd (lt_irrefl 0 h);
        from_above = λ n l. subst (λ (a : ℕ). NotBelow a (den x) (2 ^ 18) (2 ^ 58) n) (sym z) (zero_is (den x) n l);
      };
      value = rw c.if-x.false;
    }
  where
    more : (a b : ℕ) → a ≤ b + a
    more a b = omega arith

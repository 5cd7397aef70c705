-- `arctangents::arctangent_above_zero` meets its contract. Assumes nothing.
use mathlib.Core.Path.{◌≡◌, sym, subst, ◌∙◌}
use mathlib.Core.Bool.{false}
use Prim.Native.Nat.{ℕ, suc, ◌+◌, ◌-◌, ◌*◌, ◌^◌, ◌≤◌, ◌<◌}
use native.Mathlib.Nat.{le_trans, le_of_eq, add-le-add, le_refl, mul-le-mul_right, add-mul}
use native.Mathlib.Omega.{arith}
use lib.Dec.{T}
use lib.Ieee.{of_bits}
use lib.Ieee.Positive.{num, den, positive, positive-finite}
use Rattle.arith.specs.Inside.Scaled.{parts}
use Rattle.arctangents.specs.Inside.ArctangentValues.{is_sure, beneath}
use Rattle.arctangents.proofs.Range.{two_positive, less_none}
use Rattle.circle.proofs.fixed.Order.{above_of}
use Rattle.arctangents.proofs.Sides.{found_is}
use Rattle.arctangents.proofs.Sure.{not_above, not_below, not_fine, enclosed, sure, unsure}
use Rattle.arctangents.proofs.arctangent_above_zero.Goals as goal
use Rattle.arctangents.proofs.arctangent_above_zero.Goals.{Joined-g, Start}

above : (c : Start) → T (positive c.args.x)
above c = above_of c.args.x c.requires.above_zero c.requires.finite

upto : (y l : ℕ) → y < 7 * 2 ^ 56 → l ≤ y → l + 2 ^ 18 ≤ 2 ^ 59
upto y l h k = omega arith

downto : (y l : ℕ) → y < 7 * 2 ^ 56 → l ≤ y → l ≤ 2 ^ 59
downto y l h k = omega arith

-- the bounds are 2 ^ -40 apart, and the guess is between them
near_low : (y l : ℕ) → y ≤ l + 2 ^ 17 → suc y ≤ l + 2 ^ 18
near_low y l h = omega arith

near_up : (y l : ℕ) → l ≤ y → l + 2 ^ 18 ≤ y + 2 ^ 18
near_up y l h = omega arith

-- the number 2 ^ 17 below, or 0
near : (y l : ℕ) → l ≡ y - 2 ^ 17 → (l ≤ y) × (y ≤ l + 2 ^ 17)
near y l e = (omega arith, omega arith)

-- where the tests were left, the guess is not sure
tests : (c : Joined-g) → is_sure c.guess-g.result c.unpack-s.result.m c.unpack-s.result.e ≡ false
unfolding beneath
tests c =
    let g = c.guess-g.result in
    let m = c.unpack-s.result.m in
    let e = c.unpack-s.result.e in
    elim c.if-g.branch [
      | goal.then-g+then-g-2+else-y-lt504403158265495552 w ↦ elim w.else-y-lt504403158265495552.branch [
        | goal.else-y-lt504403158265495552-via-then-y-lt504403158265495552+else-encloses v ↦ enclosed g m e _ _ _ w.if-g.true w.if-g-2.true w.fine-y.ensures.value v.if-y-lt504403158265495552.true v.saturating_sub.ensures v.encloses.ensures.value ∙ v.if-encloses.false
        | goal.else-y-lt504403158265495552-via-else-y-lt504403158265495552 v ↦ not_fine g m e _ w.if-g.true w.if-g-2.true w.fine-y.ensures.value v.if-y-lt504403158265495552.false
      ]
      | goal.else-g w ↦ elim w.else-g.branch [
        | goal.else-g-via-then-g+else-g-2 v ↦ not_below g m e v.if-g.true v.if-g-2.false
        | goal.else-g-via-else-g v ↦ not_above g m e v.if-g.false
      ]
    ]

pub unpack-s-requires : goal.unpack-s-requires
unpack-s-requires c = above c

pub fine-y-requires : goal.fine-y-requires
unfolding of_bits
fine-y-requires c = record { above_zero = subst T (sym c.if-g.true) tt; below_two = subst T (sym c.if-g-2.true) tt }

pub returns-then-encloses : goal.returns-then-encloses
unfolding of_bits beneath
returns-then-encloses c =
    let g = c.guess-g.result in
    let p = two_positive g (subst T (sym c.if-g.true) tt) (subst T (sym c.if-g-2.true) tt) in
    let f = c.fine-y in
    let b = c.saturating_sub in
    let n = near f.result b.result b.ensures in
    let x = c.args.x in
    let u = c.unpack-s in
    let t = c.encloses.ensures.between c.if-encloses.true in record {
      arctangent = record {
        number = positive-finite g p;
        not_negative = less_none g p;
        low = b.result;
        up = b.result + 2 ^ 18;
        low_near = le_trans f.ensures.fine.high (mul-le-mul_right (den g) (near_low f.result b.result n.1));
        up_near = le_trans (mul-le-mul_right (den g) (near_up f.result b.result n.0)) (le_trans (le_of_eq (add-mul f.result (2 ^ 18) (den g))) (add-le-add f.ensures.fine.low (le_refl (2 ^ 18 * den g))));
        low_upto_two = downto f.result b.result c.if-y-lt504403158265495552.true n.0;
        up_upto_two = upto f.result b.result c.if-y-lt504403158265495552.true n.0;
        from_below = t.from_below (num x) (den x) c.unpack-s.ensures.unpacked.value;
        from_above = t.from_above (num x) (den x) c.unpack-s.ensures.unpacked.value;
      };
      value = sure x g (parts u.result.m u.result.e) u.ensures.value c.guess-g.ensures (enclosed g u.result.m u.result.e f.result b.result _ c.if-g.true c.if-g-2.true f.ensures.value c.if-y-lt504403158265495552.true b.ensures c.encloses.ensures.value ∙ c.if-encloses.true);
    }

pub returns : goal.returns
returns c =
    let f = c.bisected in
    let s = c.unpack-s in
    let x = c.args.x in record { arctangent = found_is x c.parts.result f.result s.result.m s.result.e f.ensures.found c.parts.ensures.has_value s.ensures.unpacked.value; value = c.parts.ensures.value ∙ unsure x c.guess-g.result (parts s.result.m s.result.e) s.ensures.value c.guess-g.ensures f.result f.ensures.value (tests c.before.before) }

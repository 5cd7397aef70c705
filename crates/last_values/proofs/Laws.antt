-- The steps of a lane, in the form in which the proofs of the code meet them. Assumes nothing.
use Prim.Native.Nat.{ℕ, suc, ◌+◌, ◌-◌, ◌*◌, ◌<◌}
use mathlib.Core.Path.{◌≡◌, refl, sym, ◌∙◌}
use mathlib.Core.Bool.{Bool, true, false}
use mathlib.Core.List.{List}
use native.Mathlib.Omega.{arith}
use native.Mathlib.Nat.{suc-mul}
use native.Mathlib.Decide.{ℕ_discrete}
use borrow.Author.Tests.{eq-eqb, ne_eqb}
use lib.Ieee.{Float, lt}
use lib.ListN.{set}
use Rattle.std.specs.Prelude.{Option, Some, None, Ok, Err, is_some}
use Rattle.arith.specs.Double.{◌⊖◌, ◌⊘◌, #1e-14}
use Rattle.arith.specs.Choice.{abs}
use Rattle.arith.proofs.Flags.{not_left}
use Rattle.sturm.specs.Pivots.{count}
use Rattle.segv.specs.declared.ends.Ends.{Ends}
use Rattle.segv.specs.Bisection.{tighten_others}
use Rattle.segv.specs.Inside.Arrays.{ends}
use Rattle.last_values.specs.declared.lane.Lane.{Lane}
use Rattle.last_values.specs.Lane.{Last, last_from, resumed, comes_to, halve, started_at, ending, next_lane, midpoint_of, weight, Stepped}
use Rattle.last_values.proofs.Family.{resumed_out, resumed_met, resumed_on, last_end, last_opened}

-- a place that starts weighs less than one with places after it
lighter : (allowance left n q : ℕ) → n ≡ suc q → 1 + allowance + q * (allowance + 1) < 1 + left + n * (allowance + 1)
lighter allowance left n q h = rw (h, suc-mul q (allowance + 1)) (omega arith)

-- ---- an outcome is there or not
pub none_is : (o : Option Last) → is_some o ≡ false → o ≡ None
none_is (Some r) h = absurd (not_left h)
none_is None h = refl

none_or_some : {A : Type 0} (o : Option Last) → o ≡ None → is_some o ≡ true → A
none_or_some o n h = not_left (sym (rw n at h))

module _ (places allowance : ℕ) where
  -- ---- what a lane comes to, and its weight
  module _ (l : Lane) where
    running_weight : l.outcome ≡ None → weight places allowance l ≡ 1 + l.left + (places - (l.index + 1)) * (allowance + 1)
    unfolding weight
    running_weight h = rw h

    ended_weight : is_some l.outcome ≡ true → weight places allowance l ≡ 0
    unfolding weight
    ended_weight h = rw h

    module _ (d e : List Float) (entries : ℕ) where
      running : l.outcome ≡ None → comes_to d e entries places allowance l ≡ resumed d e entries places allowance l.index l.left l.lower l.upper l.ends
      unfolding comes_to
      running h = rw h

      through : (r : Last) → l.outcome ≡ Some r → comes_to d e entries places allowance l ≡ r
      unfolding comes_to
      through r h = rw h

  -- a place that starts comes to what its family comes to from there on
  pub started_comes : (d e : List Float) (entries n p : ℕ) (s : Ends) (v : Float) → n ≡ suc (places - (p + 1))
      → comes_to d e entries places allowance (started_at p places allowance s) ≡ last_from d e entries places allowance n p s v
  unfolding comes_to
  started_comes d e entries n p s v h = sym (last_opened d e entries places allowance n p s v h)

  -- ---- one step
  module _ (k : ℕ) (l : Lane) where
    pub stepped_ended : is_some l.outcome ≡ true → Stepped places allowance k l l
    stepped_ended h = record { comes = λ d e entries c. refl; inside = λ z. none_or_some l.outcome z h; kept = λ z. z; less = λ z. none_or_some l.outcome z h }

    module _ (on : l.outcome ≡ None) where
      pub stepped_out : l.left ≡ 0 → Stepped places allowance k l (ending l (Err (record {})))
      stepped_out h =
          let t = ending l (Err (record {})) in
          record {
            comes = λ d g entries c. through t d g entries _ refl ∙ sym (running l d g entries on ∙ resumed_out d g entries places allowance l.index l.left l.lower l.upper l.ends h);
            inside = λ z. none_or_some t.outcome z refl;
            kept = λ z. refl;
            less = λ z. rw (running_weight l on, ended_weight t refl) (omega arith);
          }

      module _ (in_reach : l.index < places) (some : (l.left ≡ 0 → ⊥)) (x : Float) (hx : x ≡ midpoint_of l) (b : Bool) (hb : b ≡ lt (abs ((l.upper ⊖ l.lower) ⊘ x)) #1e-14) where
        rest : l.left ≡ suc (l.left - 1)
        rest = let z = some in omega arith

        pub stepped_on : (after : Ends) (t : Lane) → b ≡ false → after ≡ tighten_others places (l.index + 1) (count k false) x l.ends
            → t ≡ halve (record l { ends = after }) x k → Stepped places allowance k l t
        stepped_on after t h ha e =
            let u = halve (record l { ends = after }) x k in
            record {
              comes = λ d g entries c. rw e
                  (running u d g entries on
                  ∙ rw ha
                  (sym (running l d g entries on ∙ resumed_on d g entries places allowance l.index l.left (l.left - 1) l.lower l.upper x l.ends rest hx k (c ∙ rw hx) (sym hb ∙ h))));
              inside = λ z. rw e in_reach;
              kept = λ z. none_or_some l.outcome on z;
              less = λ z. rw (e, running_weight l on, running_weight u on) (let r = rest in omega arith);
            }

        module _ (h : b ≡ true) where
          abbrev after : Ends
          after = ends l.ends.uppers (set l.ends.lowers l.index l.lower)

          found : (d e : List Float) (entries : ℕ) → comes_to d e entries places allowance l ≡ last_from d e entries places allowance (places - (l.index + 1)) (l.index + 1) after x
          found d g entries =
              running l d g entries on ∙ resumed_met d g entries places allowance l.index l.left (l.left - 1) l.lower l.upper x l.ends rest hx (sym hb ∙ h)

          pub stepped_next : (t : Lane) → t ≡ next_lane l x places allowance → Stepped places allowance k l t
          stepped_next t e = pick (ℕ_discrete (l.index + 1) places)
            where
              pick : Dec (l.index + 1 ≡ places) → Stepped places allowance k l t
              pick (yes q) =
                  let u : Lane = record l { outcome = Some (Ok x); ends = after } in
                  let t-is : t ≡ u = e ∙ rw (eq-eqb (l.index + 1) places q) in
                  record {
                    comes = λ d g entries c. rw t-is (through u d g entries (Ok x) refl ∙ sym (found d g entries ∙ last_end d g entries places allowance (places - (l.index + 1)) _ _ _ (omega arith)));
                    inside = λ z. none_or_some t.outcome z (rw t-is);
                    kept = λ z. rw t-is;
                    less = λ z. rw (t-is, running_weight l on, ended_weight u refl) (omega arith);
                  }
              pick (no q) =
                  let u : Lane = started_at (l.index + 1) places allowance after in
                  let more : places - (l.index + 1) ≡ suc (places - (l.index + 1 + 1)) = let r = in_reach in omega arith in
                  let t-is : t ≡ u = e ∙ rw (ne_eqb (l.index + 1) places q) in
                  record {
                    comes = λ d g entries c. rw t-is (started_comes d g entries _ (l.index + 1) _ x more ∙ sym (found d g entries));
                    inside = λ z. rw t-is (let r = in_reach in omega arith);
                    kept = λ z. none_or_some l.outcome on z;
                    less = λ z. rw (t-is, running_weight l on, running_weight u refl) (lighter allowance l.left _ _ more);
                  }

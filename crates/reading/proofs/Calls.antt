-- The invariant of `answer_arrived`, with one law for each thing that a turn can meet. Assumes nothing.
use Prim.Native.Nat.{ℕ, zero, suc, ◌+◌, ◌<◌, ◌≤◌}
use mathlib.Core.Path.{◌≡◌, refl, sym, ap, ◌∙◌}
use mathlib.Core.Logic.{◌≢◌}
use mathlib.Core.Bool.{Bool, true, false, true≢false}
use mathlib.Core.List.{List, [], ◌++◌}
use native.Mathlib.Omega.{arith}
use borrow.Author.Tests.{le-leb, lt-leb}
use lib.ListN.{length}
use Rattle.stream.specs.declared.stream.Progress.{Progress}
use Rattle.stream.specs.Inside.Calls.{Answered, answered, progress, longest}
use Rattle.stream.specs.Readings.{calls_in, answers_to}
use Rattle.stream.proofs.StreamLaws.{moves}
use Rattle.stream.proofs.Readings.{further, Enough, calls_refused, calls_through, calls_on}
use Rattle.reading.specs.declared.State.{State}
use Rattle.reading.specs.declared.State.TheVariants.{Going}
use Rattle.reading.specs.Loop.{Answers, state_of, refuses, taken}

-- ---- what a state tells
pub refuses_is : (refused written : Bool) → refuses (state_of refused written) ≡ refused
refuses_is false false = refl
refuses_is false true = refl
refuses_is true false = refl
refuses_is true true = refl

taken_is : (refused written : Bool) → taken (state_of refused written) ≡ written
taken_is false false = refl
taken_is false true = refl
taken_is true false = refl
taken_is true true = refl

pub going_is : {state : State} (refused written : Bool) → state ≡ state_of refused written → state ≡ Going → refused ≡ false
going_is refused written e g = sym (refuses_is refused written) ∙ ap refuses (sym e ∙ g)

-- one that does not go on, though its lines were taken, is refused
refused_is : {state : State} (refused written : Bool) → state ≡ state_of refused written → state ≢ Going → taken state ≡ true → refused ≡ true
refused_is {state} refused written e g h = go refused written e
  where
    go : (t w : Bool) → state ≡ state_of t w → t ≡ true
    go true w e = refl
    go false true e = absurd (g e)
    go false false e = absurd (true≢false (sym h ∙ ap taken e))

-- what is left to do gives what all calls give
pub record Reached (input : List ℕ) (room first at index : ℕ) : Type 0 where
  pub most : ℕ
  pub text : List ℕ
  pub rest : calls_in most input room (record { text = text; at = at; index = index; refused = false }) ≡ answers_to input room first
  pub enough : Enough input at most
  pub within : at ≤ length input
  pub counted : index ≤ first + at

pub start : (input : List ℕ) (room first : ℕ) → Reached input room first 0 first
start input room first = record { most = suc (length input); text = []; rest = refl; enough = omega arith; within = omega arith; counted = omega arith }

module _ {input : List ℕ} {room first at index : ℕ} (s : Reached input room first at index) {length-out : ℕ} (same-room : length-out ≡ room) {r : Progress} (told : r ≡ progress (answered input length-out at index)) where
  e : r ≡ progress (answered input room at index)
  e = told ∙ ap (λ (k : ℕ). progress (answered input k at index)) same-room

  abbrev here : Answered
  here = record { text = s.text; at = at; index = index; refused = false }

  within : r.at ≤ length input
  within = (moves input room at index r e).within s.within

  counted : r.index ≤ first + r.at
  counted = let m = moves input room at index r e in omega (arith, m.fewest, m.most, s.counted)

  -- a call has been made, and it is the last
  last : r.refused ≡ true → further input room here ≡ answers_to input room first
  last f = go s.most s.enough s.rest
    where
      go : (most : ℕ) → Enough input at most → calls_in most input room here ≡ answers_to input room first → further input room here ≡ answers_to input room first
      go zero enough rest = absurd (omega arith)
      go (suc most) enough rest = sym (calls_refused most input room here (sym (ap (λ (p : Progress). p.refused) e) ∙ f)) ∙ rest

  last_through : r.refused ≡ false → r.used + longest ≤ room → further input room here ≡ answers_to input room first
  last_through f h = go s.most s.enough s.rest
    where
      used : r.used ≡ length (answered input room at index).text
      used = ap (λ (p : Progress). p.used) e

      go : (most : ℕ) → Enough input at most → calls_in most input room here ≡ answers_to input room first → further input room here ≡ answers_to input room first
      go zero enough rest = absurd (omega arith)
      go (suc most) enough rest = sym (calls_through most input room here (sym (ap (λ (p : Progress). p.refused) e) ∙ f) (le-leb (length (answered input room at index).text + longest) room (omega (arith, used)))) ∙ rest

  module _ (all : further input room here ≡ answers_to input room first) where
    is_at : r.at ≡ (answers_to input room first).at
    is_at = ap (λ (p : Progress). p.at) e ∙ ap (λ (a : Answered). a.at) all

    is_index : r.index ≡ (answers_to input room first).index
    is_index = ap (λ (p : Progress). p.index) e ∙ ap (λ (a : Answered). a.index) all

    is_refused : r.refused ≡ (answers_to input room first).refused
    is_refused = ap (λ (p : Progress). p.refused) e ∙ ap (λ (a : Answered). a.refused) all

  module _ (state : State) (written : Bool) (told_state : state ≡ state_of r.refused written) where
    pub stopped : state ≢ Going → Answers input room first (record { at = r.at; index = r.index; state = state })
    stopped h =
        record {
          within = within;
          counted = counted;
          through = λ g. absurd (h g);
          at = λ read. is_at (last (refused_is _ written told_state h read));
          index = λ read. is_index (last (refused_is _ written told_state h read));
          refused = λ read. ap refuses told_state ∙ refuses_is _ written ∙ is_refused (last (refused_is _ written told_state h read));
        }

    pub through : state ≡ Going → r.used + longest ≤ room → Answers input room first (record { at = r.at; index = r.index; state = state })
    through g h =
        let f = going_is _ written told_state g in
        let all = last_through f h in
        record {
          within = within;
          counted = counted;
          through = λ _. let m = (moves input room at index r e).through h f in omega arith;
          at = λ _. is_at all;
          index = λ _. is_index all;
          refused = λ _. ap refuses told_state ∙ refuses_is _ written ∙ is_refused all;
        }

  -- there may be more to answer
  module _ (roomy : longest ≤ room) (f : r.refused ≡ false) (h : room < r.used + longest) where
    pub on : at < r.at
    on = (moves input room at index r e).further roomy h f

    pub again : Reached input room first r.at r.index
    again = go s.most s.enough s.rest
      where
        b : Answered
        b = answered input room at index

        go : (most : ℕ) → Enough input at most → calls_in most input room here ≡ answers_to input room first → Reached input room first r.at r.index
        go zero enough rest = absurd (omega arith)
        go (suc most) enough rest =
            let used : r.used ≡ length b.text = ap (λ (p : Progress). p.used) e in
            let g : b.refused ≡ false = sym (ap (λ (p : Progress). p.refused) e) ∙ f in
            let same : calls_in most input room (further input room here) ≡ answers_to input room first = sym (calls_on most input room here g (lt-leb (length b.text + longest) room (omega arith))) ∙ rest in
            record {
              most = most;
              text = s.text ++ b.text;
              rest =
                  ap (λ (t : Bool). calls_in most input room (record { text = s.text ++ b.text; at = r.at; index = r.index; refused = t })) (sym f)
                  ∙ ap (λ (p : Progress). calls_in most input room (record { text = s.text ++ b.text; at = p.at; index = p.index; refused = p.refused })) e
                  ∙ same;
              enough = omega (arith, on, within);
              within = within;
              counted = counted;
            }

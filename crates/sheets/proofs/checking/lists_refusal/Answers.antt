-- `sheets::checking::lists_refusal` meets its contract. Each return is one refusal of the definition. Assumes nothing.
use mathlib.Core.Path.{◌≡◌, refl, sym, ap, ◌∙◌}
use mathlib.Core.Bool.{Bool, cond}
use Prim.Native.Nat.{ℕ}
use Rattle.std.proofs.lemmas.Result.{err_from_is_err_and}
use Rattle.std.specs.Prelude.{Result, Ok, Err}
use Rattle.std.specs.Result.{result_and}
use Rattle.requests.specs.declared.refusals.Refusal.{Refusal}
use Rattle.requests.specs.Answers.{code, number_of}
use Rattle.requests.proofs.Laws.{some_number}
use Rattle.sheets.specs.Sheet.{or_else}
use Rattle.sheets.proofs.Laws as laws
use Rattle.sheets.proofs.checking.lists_refusal.Goals as goal

abbrev size : Bool → ℕ
size b = cond b 13 0

-- the number of the first of two that is refused
refused_number : (parameter argument : Result Unit Refusal) {refused : Result Unit Refusal} {refusal : Refusal} → refused ≡ result_and parameter argument → refused ≡ Err refusal → number_of refusal ≡ or_else (code parameter) (code argument)
refused_number parameter argument e h = sym (ap (code {A = Unit}) h) ∙ ap (code {A = Unit}) e ∙ laws.and_number parameter argument

passed_number : (parameter argument : Result Unit Refusal) {refused : Result Unit Refusal} {u : Unit} → refused ≡ result_and parameter argument → refused ≡ Ok u → 0 ≡ or_else (code parameter) (code argument)
passed_number parameter argument e h = sym (ap (code {A = Unit}) h) ∙ ap (code {A = Unit}) e ∙ laws.and_number parameter argument

pub returns-then-out_of_range : goal.returns-then-out_of_range
returns-then-out_of_range c = laws.lists_order _ _ _ _ _ (sym c.out_of_range.ensures ∙ c.if-out_of_range.true)

pub returns-in_err-refused : goal.returns-in_err-refused
returns-in_err-refused c =
    let p = err_from_is_err_and c.from_residual.result c.from_residual.ensures.1 in
    rw (p.1, p.2)
    (laws.lists_element _ _ _ _ _ (sym c.out_of_range.ensures ∙ c.if-out_of_range.false) _ _ _ c.parameters_refusal-parameter.ensures c.arguments_refusal-argument.ensures (refused_number _ _ c.and-refused.ensures c.in_err-refused.was) (some_number _))

pub returns-then-too_large : goal.returns-then-too_large
returns-then-too_large c = sym (ap size c.if-too_large.true) ∙ laws.lists_size _ _ _ _ _ (sym c.out_of_range.ensures ∙ c.if-out_of_range.false) _ _ _ c.parameters_refusal-parameter.ensures c.arguments_refusal-argument.ensures (passed_number _ _ c.and-refused.ensures c.in_ok-refused.was) _ refl c.too_large.ensures

pub returns : goal.returns
returns c = sym (ap size c.if-too_large.false) ∙ laws.lists_size _ _ _ _ _ (sym c.out_of_range.ensures ∙ c.if-out_of_range.false) _ _ _ c.parameters_refusal-parameter.ensures c.arguments_refusal-argument.ensures (passed_number _ _ c.and-refused.ensures c.in_ok-refused.was) _ refl c.too_large.ensures

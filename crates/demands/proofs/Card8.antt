-- Card 8: the pairs of a sheet are those of single calls. Assumes nothing.
use Prim.Native.Nat.{ℕ, ◌+◌, ◌-◌, ◌*◌, ◌<◌}
use mathlib.Core.Path.{◌≡◌, refl, sym, ap, ◌∙◌}
use mathlib.Core.Bool.{Bool, true, false}
use mathlib.Core.List.{List, ◌++◌, map}
use native.Mathlib.Omega.{arith}
use native.Mathlib.Nat.{add_assoc, mul-add, mul_left_comm, mul-zero}
use native.Mathlib.Decide.{ℕ_discrete}
use lib.Ieee.{Float}
use lib.ListN.{length, drop, length-append, length-drop}
use lib.Seq.{drop_at}
use Rattle.arith.specs.Double.{at}
use Rattle.angular.specs.Aswfa.{aswfa}
use Rattle.angular.proofs.Turns.{in_turn_length, in_turn_at}
use Rattle.segv.specs.declared.bisection.Bracket.{Bracket}
use Rattle.segv.specs.Row.{Slices}
use Rattle.requests.specs.Answers.{Pair}
use Rattle.requests.specs.declared.checking.Kind.{Kind}
use Rattle.requests.specs.declared.checking.Mode.{Mode}
use Rattle.requests.specs.Refusals.{mode_refusal, sign_of}
use Rattle.rows.specs.Rows.{row_of, too_short, blank_slices}
use Rattle.modes.specs.Angular.{angular_of}
use Rattle.rows.proofs.Filled.{bracket_at, filled, filled_of, long_all}
use Rattle.sheets.specs.Sheet.{mode_with, first_refusal, argument_refusal, too_large, lists_refusal, pair_of, each, cv_for, row_refusal_for, pairs, sheet_refusal, sheet_of}
use Rattle.sheets.proofs.Laws as sheets
use Rattle.demands.specs.Card8.{SinglePairs, RestOfBlock, SheetEdge, sheet_edges, number_of, example_sheet, example_bits}
use Rattle.demands.proofs.Computed.{computed}
use Rattle.demands.proofs.Handed.{handed_at}

-- ---- the row of a mode in other slices has the same values
row_again : (kind : Kind) (x : Mode) (allowance : ℕ) (l : Slices) → (row_of kind x allowance blank_slices).number ≡ 0 → too_short x l ≡ false
    → ((row_of kind x allowance l).number ≡ 0) × (at (row_of kind x allowance l).after.values (x.n - x.m) ≡ at (row_of kind x allowance blank_slices).after.values (x.n - x.m))
row_again kind x allowance l h t =
    let g = filled kind x allowance blank_slices h in
    let f = bracket_at kind x allowance in
    let is = filled_of kind x allowance l g.none t g.given in
    let last = x.n - x.m in (
      ap (λ a. a.number) is,
      rw (is, g.is)
          (ap (λ (b : Bracket). b.value) (handed_at x f l (long_all x l t) last (omega arith))
          ∙ sym (ap (λ (b : Bracket). b.value) (handed_at x f blank_slices (long_all x blank_slices g.long) last (omega arith)))),
    )

-- where a pair is
place_is : (i a j : ℕ) → 2 * (i * a + j) ≡ i * (2 * a) + 2 * j
place_is i a j = mul-add 2 (i * a) j ∙ ap (λ (k : ℕ). k + 2 * j) (mul_left_comm 2 i a)

module _ (kind : Kind) (m n allowance : ℕ) (cs xs block : List Float) (h : (sheet_of kind m n allowance cs xs block).number ≡ 0) where
  abbrev g : sheets.Given kind m n allowance cs xs block
  g = sheets.given kind m n allowance cs xs block h

  abbrev some_pairs : Float → List Float
  some_pairs = sheets.pairs_of kind m n allowance xs

  abbrev rest : List Float
  rest = drop (2 * (length cs * length xs)) block

  -- of one c
  width : (c : Float) → length (some_pairs c) ≡ 2 * length xs
  width c = in_turn_length (aswfa m n c (cv_for kind m n allowance c) (sign_of kind)) xs

  after_is : (length xs ≡ 0 → ⊥) → (sheet_of kind m n allowance cs xs block).after ≡ each some_pairs cs ++ rest
  after_is some = g.is ∙ ap (λ (ys : List Float). ys ++ rest) (sheets.accepted_pairs kind m n allowance xs cs g.lists.parameters g.lists.arguments (g.rows some))

  single : (i j : ℕ) → i < length cs → j < length xs → (l : Slices) → too_short (mode_with m n (at cs i)) l ≡ false
      → let after = (sheet_of kind m n allowance cs xs block).after in
      let row = row_of kind (mode_with m n (at cs i)) allowance l in
      let place = 2 * (i * length xs + j) in
      (row.number ≡ 0) × (angular_of kind (mode_with m n (at cs i)) (at row.after.values (n - m)) (at xs j) ≡ Pair (at after place) (at after (place + 1)))
  unfolding cv_for
  single i j hi hj l t =
      let c = at cs i in
      let some : length xs ≡ 0 → ⊥ = λ z. omega arith in
      let hr = sheets.all_pass (row_refusal_for kind m n allowance) cs (g.rows some) i hi in
      let again = row_again kind (mode_with m n c) allowance l hr t in
      let w = 2 * length xs in
      let value = sheets.each_at some_pairs (2 * length xs) width cs rest i (2 * j) hi (omega arith) in
      let derivative = sheets.each_at some_pairs (2 * length xs) width cs rest i (2 * j + 1) hi (omega arith) in
      let pair = in_turn_at (aswfa m n c (cv_for kind m n allowance c) (sign_of kind)) xs j hj in (
        again.0,
        rw (again.1, after_is some, place_is i (length xs) j, add_assoc (i * w) (2 * j) 1, value, derivative, pair.0, pair.1)
            (sheets.answer_is kind m n c (cv_for kind m n allowance c) (sheets.all_pass (λ c. mode_refusal (mode_with m n c)) cs g.lists.parameters i hi)
            (sheets.value_finite kind m n allowance xs c hr) (at xs j) (sheets.all_pass argument_refusal xs g.lists.arguments j hj)),
      )

  all_pairs : length (pairs kind m n allowance cs xs) ≡ 2 * (length cs * length xs)
  all_pairs = go (ℕ_discrete (length xs) 0)
    where
      go : Dec (length xs ≡ 0) → length (pairs kind m n allowance cs xs) ≡ 2 * (length cs * length xs)
      go (yes e) = rw (sheets.no_pairs kind m n allowance cs xs e, e, mul-zero (length cs))
      go (no some) =
          ap length (sheets.accepted_pairs kind m n allowance xs cs g.lists.parameters g.lists.arguments (g.rows some)) ∙ sheets.each_length some_pairs (2 * length xs) width cs
          ∙ mul_left_comm (length cs) 2 (length xs)

  left : let after = (sheet_of kind m n allowance cs xs block).after in
      let pairs = length cs * length xs in
      (length after ≡ length block) × (drop (2 * pairs) after ≡ drop (2 * pairs) block)
  left =
      let ps = pairs kind m n allowance cs xs in
      let k = 2 * (length cs * length xs) in
      let room = g.lists.room in
      let size = length-drop k block in (
        ap length g.is ∙ length-append ps rest ∙ rw (all_pairs, size) (omega arith),
        ap (drop k) g.is ∙ drop_at ps rest k all_pairs,
      )

pub rest_of_block : RestOfBlock
rest_of_block = left

pub single_pairs : SinglePairs
single_pairs = single

-- ---- by computation
unfoldable sheet : Bool
unfolding sheet_refusal sheet_of lists_refusal first_refusal too_large pairs each pair_of cv_for
sheet = true

pub edges_right : map number_of sheet_edges ≡ map (λ (e : SheetEdge). e.refusal) sheet_edges
unfolding computed sheet sheet_edges
edges_right = refl

pub example_right : example_sheet ≡ example_bits
unfolding computed sheet
example_right = refl

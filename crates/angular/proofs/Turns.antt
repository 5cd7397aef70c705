-- Pairs that are put in turn into the first places of a list. Assumes nothing.
use Prim.Native.Nat.{ℕ, zero, suc, ◌+◌, ◌*◌, ◌≤◌, ◌<◌}
use mathlib.Core.Path.{◌≡◌, refl, sym, ap, ◌∙◌}
use mathlib.Core.List.{List, [], ◌∷◌, ◌++◌, append_assoc}
use native.Mathlib.Omega.{arith}
use native.Mathlib.Numerals.{add-one}
use lib.Ieee.{Float, nan}
use lib.ListN.{length, take, drop, set, length-append}
use lib.Seq.{length-take-le, drop-cons, append_snoc, set_at}
use Rattle.arith.specs.Double.{at}
use Rattle.expansion.specs.declared.values.Pair.{Pair}
use Rattle.angular.specs.Inside.Turns.{in_turn}

module _ (pair : Float → Pair) where
  pub in_turn_length : (xs : List Float) → length (in_turn pair xs) ≡ 2 * length xs
  unfolding in_turn
  in_turn_length [] = refl
  in_turn_length (x ∷ xs) = rw (in_turn_length xs) (omega arith)

  -- the pair of argument j
  pub in_turn_at : (xs : List Float) (j : ℕ) → j < length xs → (at (in_turn pair xs) (2 * j) ≡ (pair (at xs j)).value) × (at (in_turn pair xs) (2 * j + 1) ≡ (pair (at xs j)).derivative)
  unfolding in_turn
  in_turn_at [] j h = absurd (omega arith)
  in_turn_at (x ∷ xs) zero h = (refl, refl)
  in_turn_at (x ∷ xs) (suc j) h =
      let e : 2 * suc j ≡ suc (suc (2 * j)) = omega arith in
      let f : 2 * suc j + 1 ≡ suc (suc (2 * j + 1)) = omega arith in
      let r = in_turn_at xs j (omega arith) in
      (rw e r.0, rw f r.1)

  in_turn_more : (xs : List Float) (j : ℕ) → j < length xs → in_turn pair (take (suc j) xs) ≡ in_turn pair (take j xs) ++ (pair (at xs j)).value ∷ (pair (at xs j)).derivative ∷ []
  unfolding in_turn
  in_turn_more [] j h = absurd (omega arith)
  in_turn_more (x ∷ xs) zero h = refl
  in_turn_more (x ∷ xs) (suc j) h = rw (in_turn_more xs j (omega arith))

  -- one pair more
  pub pair_put : (xs before out : List Float) (j : ℕ) (v d : Float) → j < length xs → 2 * length xs ≤ length before → out ≡ in_turn pair (take j xs) ++ drop (2 * j) before → v ≡ (pair (at xs j)).value
      → d ≡ (pair (at xs j)).derivative → set (set out (2 * j) v) (2 * j + 1) d ≡ in_turn pair (take (j + 1) xs) ++ drop (2 * (j + 1)) before
  pair_put xs before out j v d h l e hv hd =
      let p = in_turn pair (take j xs) in
      let k = 2 * j in
      let lp : length p ≡ k = in_turn_length (take j xs) ∙ ap (λ (i : ℕ). 2 * i) (length-take-le j xs (omega arith)) in
      let a = at before k in
      let b = at before (suc k) in
      let rest = drop (suc (suc k)) before in
      let two : drop k before ≡ a ∷ b ∷ rest = drop-cons before k nan (omega arith) ∙ ap (λ (ys : List Float). a ∷ ys) (drop-cons before (suc k) nan (omega arith)) in
      let first : set out k v ≡ (p ++ v ∷ []) ++ b ∷ rest = ap (λ (ys : List Float). set ys k v) (e ∙ ap (λ (ys : List Float). p ++ ys) two) ∙ set_at p a (b ∷ rest) v k lp ∙ sym (append_snoc p v (b ∷ rest)) in
      let far : length (p ++ v ∷ []) ≡ k + 1 = length-append p (v ∷ []) ∙ rw lp in
      let second : set (set out k v) (k + 1) d ≡ (p ++ v ∷ []) ++ d ∷ rest = ap (λ (ys : List Float). set ys (k + 1) d) first ∙ set_at (p ++ v ∷ []) b rest d (k + 1) far in
      let end : suc (suc k) ≡ 2 * suc j = omega arith in
      second ∙ append_snoc p v (d ∷ rest) ∙ sym (append_assoc p (v ∷ d ∷ []) rest) ∙ rw (hv, hd, add-one j, ← in_turn_more xs j h, end)

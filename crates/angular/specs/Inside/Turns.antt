-- Pairs in a list of doubles. Definition only.
use Rattle.std.specs.Prelude.{List, [], ◌∷◌, Float}
use Rattle.expansion.specs.declared.values.Pair.{Pair}

-- the pair of each element, value and derivative in turn
unfoldable pub in_turn : (Float → Pair) → List Float → List Float
in_turn pair [] = []
in_turn pair (x ∷ xs) = (pair x).value ∷ (pair x).derivative ∷ in_turn pair xs

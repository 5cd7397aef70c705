-- What a store in a list keeps. Assumes nothing.
use Prim.Native.Nat.{ℕ, zero, suc}
use mathlib.Core.Path.{◌≡◌, refl, ap}
use mathlib.Core.List.{List, [], ◌∷◌}
use lib.ListN.{get_or, set}

-- a store keeps what holds of every place, where it holds of what is stored
pub stored : {A : Type 0} (P : A → Type 0) (d : A) (l : List A) (i q : ℕ) (a : A) → P (get_or l q d) → (q ≡ i → P a) → P (get_or (set l i a) q d)
stored P d [] i q a old new = old
stored P d (y ∷ l) zero zero a old new = new refl
stored P d (y ∷ l) zero (suc q) a old new = old
stored P d (y ∷ l) (suc i) zero a old new = old
stored P d (y ∷ l) (suc i) (suc q) a old new = stored P d l i q a old (λ e. new (ap suc e))

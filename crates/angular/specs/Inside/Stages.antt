-- What the contracts speak of where the pair is formed from the first few power coefficients. `aswfa` itself is defined without it. Definitions only.
use Rattle.std.specs.Prelude.{ℕ, ◌+◌, ◌<◌, ◌≡◌, Bool, true, List, Float}
use Rattle.arith.specs.Double.{at}

-- two lists have the same first `count` places
abbrev pub Agree : ℕ → List Float → List Float → Type 0
Agree count xs ys = (i : ℕ) → i < count → at xs i ≡ at ys i

-- a result of sums up to nm2 over ck that have ended is that of any list that begins as ck, however far its sums may go
abbrev pub Final : {A : Type 0} → Bool → A → (List Float → ℕ → A) → List Float → ℕ → Type 0
Final ended r result ck nm2 = ended ≡ true → (ys : List Float) → Agree (nm2 + 1) ck ys → (more : ℕ) → result ys (nm2 + more) ≡ r

-- What the code carries from power coefficient to power coefficient. Definitions only.
use Rattle.std.specs.Prelude.{ℕ, ◌+◌, ◌-◌, ◌%◌, ◌≤◌, ◌≡◌, List, Float}
use Rattle.expansion.specs.declared.sckb.Carried.{Carried}
use Rattle.expansion.specs.Terms.{power_terms_of}
use Rattle.expansion.specs.Sckb.{regulator, factorial, filled}

-- it is what the definition has after as many coefficients, with the factorial of the next
abbrev pub Stands : List Float → ℕ → ℕ → ℕ → Carried → List Float → Type 0
Stands df m ip nm at ck =
    let s = filled df m ip nm at.k in
    (at.k ≤ nm) × (at.fac ≡ s.fac) × (at.sw ≡ s.sw) × (ck ≡ s.ck) × (at.r1 ≡ factorial (regulator m nm) (m + at.k))

-- the same for a mode
abbrev pub StandsFor : List Float → ℕ → ℕ → Float → Carried → List Float → Type 0
StandsFor df m n c at ck = Stands df m ((n - m) % 2) (power_terms_of (n - m) c) at ck

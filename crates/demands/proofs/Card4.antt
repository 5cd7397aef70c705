-- Each line of the table is as the definitions give it, by computation. Assumes nothing.
use mathlib.Core.Path.{◌≡◌, refl}
use mathlib.Core.List.{[], ◌∷◌, map}
use Prim.Native.Nat.{ℕ}
use Rattle.arith.specs.Double.{bits_of, at, #0}
use Rattle.requests.specs.declared.checking.Kind.{Kind}
use Rattle.requests.specs.declared.checking.Mode.{Mode}
use Rattle.rows.specs.Rows.{dlmf_of}
use Rattle.demands.specs.Card4.{eigenvalues}
use Rattle.demands.proofs.Computed.{computed}

pub eigenvalues_right : map (λ (r : Kind × Mode × ℕ). bits_of (at (dlmf_of r.0 r.1 65535 (#0 ∷ [])).after 0)) eigenvalues ≡ map (λ (r : Kind × Mode × ℕ). r.2) eigenvalues
unfolding computed
eigenvalues_right = refl

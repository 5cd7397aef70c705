-- Every value of an accepted row is a finite number: refusal 7 never comes of a value that a row handed out. The statement only: `proofs/Finite.antt` proves it.
use Rattle.std.specs.Prelude.{ℕ, ◌-◌, ◌≤◌, ◌≡◌, false}
use Rattle.arith.specs.Double.{at}
use Rattle.segv.specs.Row.{Slices}
use Rattle.requests.specs.declared.checking.Kind.{Kind}
use Rattle.requests.specs.declared.checking.Mode.{Mode}
use Rattle.requests.specs.Refusals.{not_finite}
use Rattle.rows.specs.Rows.{row_of}

abbrev pub FiniteRow : Type 0
FiniteRow =
    (kind : Kind) (x : Mode) (allowance : ℕ) (l : Slices) → (row_of kind x allowance l).number ≡ 0
    → (j : ℕ) → j ≤ x.n - x.m → not_finite (at (row_of kind x allowance l).after.values j) ≡ false

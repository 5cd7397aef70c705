-- More that holds of rows, as statements about the definitions of the public rows. `proofs/RowLaws.antt` proves them.
use Rattle.std.specs.Prelude.{ℕ, ◌+◌, ◌-◌, ◌*◌, ◌≤◌, ◌≡◌, true, false, List, Float, get_or}
use Rattle.std.specs.Float.Ieee.{lt, eq}
use Rattle.arith.specs.Double.{dbl, at, #0, #1e-10}
use Rattle.segv.specs.Row.{Slices, flag}
use Rattle.requests.specs.declared.checking.Kind.{Kind}
use Rattle.requests.specs.declared.checking.Mode.{Mode}
use Rattle.rows.specs.Rows.{row_of, too_short, dlmf_of}
use Rattle.demands.specs.Demand3.{handed}

-- DLMF 30.3: at parameter zero the eigenvalue of degree n is n(n + 1), whatever the order
abbrev pub dlmf_at_zero : ℕ → ℕ
dlmf_at_zero n = n * (n + 1)

-- where c is below 1e-10, an accepted row hands out DLMF's values as doubles, with lower and upper equal to them, no step and no yes
abbrev pub ZeroParameter : Type 0
ZeroParameter =
    (kind : Kind) (x : Mode) (allowance : ℕ) (l : Slices)
    → (row_of kind x allowance l).number ≡ 0
    → lt x.c #1e-10 ≡ true
    → (j : ℕ) → j ≤ x.n - x.m
    → let v = dbl (dlmf_at_zero (x.m + j)) in handed (row_of kind x allowance l).after j ≡ record { value = v; lower = v; upper = v; steps = 0; substituted = false }

-- the flags that an accepted row hands out are 1 for yes and 0 for no
abbrev pub FlagsHanded : Type 0
FlagsHanded =
    (kind : Kind) (x : Mode) (allowance : ℕ) (l : Slices)
    → (row_of kind x allowance l).number ≡ 0
    → (j : ℕ) → j ≤ x.n - x.m
    → let after = (row_of kind x allowance l).after in get_or after.substituted j 0 ≡ flag (handed after j).substituted

-- at c = 0, of either sign, nothing moves: an accepted DLMF row hands out the row's own values, and these are DLMF's as doubles
abbrev pub DlmfZeroParameter : Type 0
DlmfZeroParameter =
    (kind : Kind) (x : Mode) (allowance : ℕ) (xs : List Float) (l : Slices)
    → (dlmf_of kind x allowance xs).number ≡ 0
    → too_short x l ≡ false
    → eq x.c #0 ≡ true
    → (j : ℕ) → j ≤ x.n - x.m
    → let v = at (row_of kind x allowance l).after.values j in (at (dlmf_of kind x allowance xs).after j ≡ v) × (v ≡ dbl (dlmf_at_zero (x.m + j)))

-- more allowance never changes an accepted row, its flags included
abbrev pub MoreAllowance : Type 0
MoreAllowance =
    (kind : Kind) (x : Mode) (a b : ℕ) (l : Slices)
    → a ≤ b
    → (row_of kind x a l).number ≡ 0
    → row_of kind x b l ≡ row_of kind x a l

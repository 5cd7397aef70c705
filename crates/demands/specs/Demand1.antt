-- The users' first demand, as far as definitions can say it: no refused call changes a lent buffer. `proofs/Demand1.antt` proves it. (That no input makes a function touch other storage, wrap a number,
-- lose bits or run without end, the checker shows of each function; that a refusal is a number alone, the type of the answer says: an enum without fields.)
use Rattle.std.specs.Prelude.{ℕ, ◌≡◌, ◌≢◌, List, Float}
use Rattle.segv.specs.Row.{Slices, Numbered}
use Rattle.requests.specs.declared.checking.Kind.{Kind}
use Rattle.requests.specs.declared.checking.Mode.{Mode}
use Rattle.rows.specs.Rows.{row_of, dlmf_of}
use Rattle.modes.specs.Coefficients.{coefficients_of}
use Rattle.sheets.specs.Sheet.{sheet_of}

-- whatever the places hold when the call begins: if it is refused, they hold the same afterwards
abbrev pub Keeps : {A : Type 0} → (A → Numbered A) → Type 0
Keeps {A} call = (places : A) → (call places).number ≢ 0 → (call places).after ≡ places

abbrev pub Demand1Rows : Type 0
Demand1Rows = (kind : Kind) (x : Mode) (allowance : ℕ) → Keeps {A = Slices} (row_of kind x allowance)

abbrev pub Demand1Dlmf : Type 0
Demand1Dlmf = (kind : Kind) (x : Mode) (allowance : ℕ) → Keeps {A = List Float} (dlmf_of kind x allowance)

abbrev pub Demand1Coefficients : Type 0
Demand1Coefficients = (kind : Kind) (x : Mode) (cv : Float) → Keeps {A = List Float} (coefficients_of kind x cv)

abbrev pub Demand1Sheets : Type 0
Demand1Sheets = (kind : Kind) (m n allowance : ℕ) (cs xs : List Float) → Keeps {A = List Float} (sheet_of kind m n allowance cs xs)

-- What of a record of either kind its lines do not depend on (document 01, 'A record comes in'): rows ignore cv and x, angular pairs and radial functions, operation 8's first kind among them, the allowance. Two records that differ only there have lines equal but for the record number, wherever in a stream they stand. Statement only: `proofs/Ignored.antt` proves it.
use Rattle.std.specs.Prelude.{ℕ, ◌≡◌, List, [], ◌∷◌, ◌++◌, Result, Ok, Err}
use Rattle.records.specs.declared.record.Record.{Record}
use Rattle.records.specs.Lines.{number}
use Rattle.requests.specs.declared.operations.Operation.{Operation}
use Rattle.requests.specs.declared.operations.Operation.TheVariants.{Row, Angular, Radial, DlmfRow, FirstKind}
use Rattle.requests.specs.declared.refusals.Refusal.{Refusal}
use Rattle.requests.specs.Operations.{operation_of}
use Rattle.stream.specs.Response.{response_to}

-- two records agree in what their operation reads besides m, n and c
unfoldable pub AgreeFor : Result Operation Refusal → Record → Record → Type 0
AgreeFor (Ok (Row kind)) r s = r.allowance ≡ s.allowance
AgreeFor (Ok (DlmfRow kind)) r s = r.allowance ≡ s.allowance
AgreeFor (Ok (Angular kind)) r s = (r.cv ≡ s.cv) × (r.x ≡ s.x)
AgreeFor (Ok Radial) r s = (r.cv ≡ s.cv) × (r.x ≡ s.x)
AgreeFor (Ok FirstKind) r s = (r.cv ≡ s.cv) × (r.x ≡ s.x)
AgreeFor (Err refusal) r s = Unit

-- two records that differ in ignored fields at most
pub record Alike (r s : Record) : Type 0 where
  pub operation : r.operation ≡ s.operation
  pub m : r.m ≡ s.m
  pub n : r.n ≡ s.n
  pub c : r.c ≡ s.c
  pub agree : AgreeFor (operation_of r.operation) r s

-- a line without its record's number: the letter, and what follows the number
pub record Line : Type 0 where
  pub letter : ℕ
  pub rest : List ℕ

-- lines as a record with this number prints them
unfoldable pub numbered : ℕ → List Line → List ℕ
numbered index [] = []
numbered index (l ∷ ls) = (l.letter ∷ number index ++ l.rest) ++ numbered index ls

-- there are lines that both print, each with its own number
abbrev pub IgnoredFields : Type 0
IgnoredFields = (r s : Record) → Alike r s → (lines : List Line) × ((i : ℕ) → response_to i r ≡ numbered i lines) × ((j : ℕ) → response_to j s ≡ numbered j lines)

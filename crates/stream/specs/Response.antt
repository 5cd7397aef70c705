-- The lines of a record, in document 01's words: a row prints one line for each mode from m to n, a row of operation 1 or 2 another after it, and a refusal prints its number. Definitions only.
use Rattle.std.specs.Prelude.{ℕ, zero, suc, ◌+◌, ◌-◌, cond, List, [], ◌++◌, eqb, Float, get_or, replicate, Ok, Err}
use Prim.Native.Char.{code}
use Rattle.arith.specs.Double.{at, #0}
use Rattle.records.specs.declared.record.Record.{Record}
use Rattle.records.specs.Lines.{v_line, z_line, d_line, pair_line, f_line, r_line}
use Rattle.segv.specs.Row.{Slices}
use Rattle.requests.specs.Answers.{Answer, Pair, Quadruple, Refused, number_of}
use Rattle.requests.specs.declared.checking.Kind.{Kind}
use Rattle.requests.specs.declared.checking.Mode.{Mode}
use Rattle.requests.specs.declared.operations.Operation.{Operation}
use Rattle.requests.specs.declared.operations.Operation.TheVariants.{Row, Angular, Radial, DlmfRow, FirstKind}
use Rattle.requests.specs.Operations.{operation_of}
use Rattle.rows.specs.Rows.{row_of, dlmf_of, blank_slices}
use Rattle.modes.specs.Angular.{angular_of}
use Rattle.modes.specs.Radial.{radial_of}
use Rattle.modes.specs.FirstKind.{first_of}

-- the lines of a row's first `count` modes, `V` and `Z` for each
unfoldable pub row_lines : ℕ → ℕ → Slices → ℕ → List ℕ
row_lines index m row zero = []
row_lines index m row (suc j) =
    row_lines index m row j
    ++ v_line index (m + j) (get_or row.steps j 0) (at row.values j) (at row.lowers j) (at row.uppers j)
    ++ z_line index (m + j) (get_or row.substituted j 0)

unfoldable pub d_lines : ℕ → ℕ → List Float → ℕ → List ℕ
d_lines index m row zero = []
d_lines index m row (suc j) = d_lines index m row j ++ d_line index (m + j) (at row j)

-- the lines of a row, or its refusal's
unfoldable pub row_text : ℕ → Kind → Mode → ℕ → List ℕ
row_text index kind x allowance =
    let a = row_of kind x allowance blank_slices in
    cond (eqb a.number 0) (row_lines index x.m a.after (x.n - x.m + 1)) (r_line index a.number)

unfoldable pub dlmf_text : ℕ → Kind → Mode → ℕ → List ℕ
dlmf_text index kind x allowance =
    let a = dlmf_of kind x allowance (replicate 200 #0) in
    cond (eqb a.number 0) (d_lines index x.m a.after (x.n - x.m + 1)) (r_line index a.number)

-- the line of what a mode is answered; a pair's has the operation's letter
unfoldable pub answer_text : ℕ → ℕ → ℕ → ℕ → Answer → List ℕ
answer_text letter index m n (Pair value derivative) = pair_line letter index m n value derivative
answer_text letter index m n (Quadruple value1 derivative1 value2 derivative2) = f_line index m n value1 derivative1 value2 derivative2
answer_text letter index m n (Refused k) = r_line index k

-- the mode that a record asks for
abbrev pub mode_of : Record → Mode
mode_of r = record { m = r.m; n = r.n; c = r.c }

-- by the operation
unfoldable pub text_of : Operation → ℕ → Record → List ℕ
text_of (Row kind) index r = row_text index kind (mode_of r) r.allowance
text_of (DlmfRow kind) index r = dlmf_text index kind (mode_of r) r.allowance
text_of (Angular kind) index r = answer_text (code "A") index r.m r.n (angular_of kind (mode_of r) r.cv r.x)
text_of Radial index r = answer_text (code "F") index r.m r.n (radial_of (mode_of r) r.cv r.x)
text_of FirstKind index r = answer_text (code "G") index r.m r.n (first_of (mode_of r) r.cv r.x)

-- the lines of the record with this number
unfoldable pub response_to : ℕ → Record → List ℕ
response_to index r = elim (operation_of r.operation) [ Ok operation ↦ text_of operation index r | Err refusal ↦ r_line index (number_of refusal) ]

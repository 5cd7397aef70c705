-- A record's lines are the same lines, with its number put in, whatever the fields that its operation ignores. Assumes nothing.
use Prim.Native.Nat.{ℕ, zero, suc, ◌+◌, ◌-◌}
use Prim.Native.Char.{code}
use mathlib.Core.Path.{◌≡◌, refl, sym, ap, ◌∙◌}
use mathlib.Core.Bool.{Bool, true, false, cond}
use mathlib.Core.List.{List, [], ◌∷◌, ◌++◌, append-nil, append_assoc}
use lib.Dec.{eqb}
use lib.Ieee.{Float}
use lib.ListN.{get_or, replicate}
use Rattle.arith.specs.Double.{at, #0}
use Rattle.records.specs.declared.record.Record.{Record}
use Rattle.records.specs.Lines.{number, double, newline, bracket, pair, v_line, z_line, d_line, r_line}
use Rattle.segv.specs.Row.{Slices}
use Rattle.std.specs.Prelude.{Result, Ok, Err}
use Rattle.requests.specs.Answers.{Answer, Pair, Quadruple, Refused, number_of}
use Rattle.requests.specs.declared.refusals.Refusal.{Refusal}
use Rattle.requests.specs.declared.operations.Operation.{Operation}
use Rattle.requests.specs.declared.operations.Operation.TheVariants.{Row, Angular, Radial, DlmfRow, FirstKind}
use Rattle.requests.specs.Operations.{operation_of}
use Rattle.rows.specs.Rows.{row_of, dlmf_of, blank_slices}
use Rattle.modes.specs.Angular.{angular_of}
use Rattle.modes.specs.Radial.{radial_of}
use Rattle.modes.specs.FirstKind.{first_of}
use Rattle.stream.specs.Response.{row_lines, d_lines, row_text, dlmf_text, answer_text, mode_of, text_of, response_to}
use Rattle.stream.specs.Ignored.{AgreeFor, Line, numbered, IgnoredFields}

-- ---- the lines of a record without its number

abbrev line : ℕ → List ℕ → Line
line letter rest = record { letter = letter; rest = rest }

abbrev r_numberless : ℕ → Line
r_numberless refusal = line (code "R") (number refusal ++ newline)

abbrev v_numberless : ℕ → Slices → ℕ → Line
v_numberless m row j = line (code "V") (number (m + j) ++ number (get_or row.steps j 0) ++ bracket (at row.values j) (at row.lowers j) (at row.uppers j))

abbrev z_numberless : ℕ → Slices → ℕ → Line
z_numberless m row j = line (code "Z") (number (m + j) ++ number (get_or row.substituted j 0) ++ newline)

abbrev d_numberless : ℕ → List Float → ℕ → Line
d_numberless m row j = line (code "D") (number (m + j) ++ double (at row j) ++ newline)

abbrev pair_numberless : ℕ → ℕ → ℕ → Float → Float → Line
pair_numberless letter m n value derivative = line letter (number m ++ number n ++ pair value derivative ++ newline)

abbrev f_numberless : ℕ → ℕ → Float → Float → Float → Float → Line
f_numberless m n value1 derivative1 value2 derivative2 = line (code "F") (number m ++ number n ++ pair value1 derivative1 ++ pair value2 derivative2 ++ newline)

-- of a row's first `count` modes, each with some lines
unfoldable each_numberless : (ℕ → List Line) → ℕ → List Line
each_numberless of zero = []
each_numberless of (suc j) = each_numberless of j ++ of j

abbrev row_numberless : ℕ → Slices → ℕ → List Line
row_numberless m row j = v_numberless m row j ∷ z_numberless m row j ∷ []

abbrev dlmf_numberless : ℕ → List Float → ℕ → List Line
dlmf_numberless m row j = d_numberless m row j ∷ []

unfoldable answer_numberless : ℕ → ℕ → ℕ → Answer → Line
answer_numberless letter m n (Pair value derivative) = pair_numberless letter m n value derivative
answer_numberless letter m n (Quadruple value1 derivative1 value2 derivative2) = f_numberless m n value1 derivative1 value2 derivative2
answer_numberless letter m n (Refused k) = r_numberless k

unfoldable numberless : Operation → Record → List Line
numberless (Row kind) r =
    let a = row_of kind (mode_of r) r.allowance blank_slices in
    cond (eqb a.number 0) (each_numberless (row_numberless r.m a.after) (r.n - r.m + 1)) (r_numberless a.number ∷ [])
numberless (DlmfRow kind) r =
    let a = dlmf_of kind (mode_of r) r.allowance (replicate 200 #0) in
    cond (eqb a.number 0) (each_numberless (dlmf_numberless r.m a.after) (r.n - r.m + 1)) (r_numberless a.number ∷ [])
numberless (Angular kind) r = answer_numberless (code "A") r.m r.n (angular_of kind (mode_of r) r.cv r.x) ∷ []
numberless Radial r = answer_numberless (code "F") r.m r.n (radial_of (mode_of r) r.cv r.x) ∷ []
numberless FirstKind r = answer_numberless (code "G") r.m r.n (first_of (mode_of r) r.cv r.x) ∷ []

unfoldable numberless_asked : Result Operation Refusal → Record → List Line
numberless_asked (Ok op) r = numberless op r
numberless_asked (Err refusal) r = r_numberless (number_of refusal) ∷ []

-- ---- with the number put in they are its lines

-- a line with its record's number
abbrev put : ℕ → Line → List ℕ
put i l = l.letter ∷ number i ++ l.rest

-- each line is the one without number, the number put in
assoc_3 : (a b c d : List ℕ) → a ++ b ++ c ++ d ≡ a ++ (b ++ c ++ d)
assoc_3 a b c d = ap (λ (t : List ℕ). t ++ d) (append_assoc a b c) ∙ append_assoc a (b ++ c) d

v_put : (i m : ℕ) (row : Slices) (j : ℕ) → v_line i (m + j) (get_or row.steps j 0) (at row.values j) (at row.lowers j) (at row.uppers j) ≡ put i (v_numberless m row j)
v_put i m row j = assoc_3 (code "V" ∷ number i) (number (m + j)) (number (get_or row.steps j 0)) (bracket (at row.values j) (at row.lowers j) (at row.uppers j))

z_put : (i m : ℕ) (row : Slices) (j : ℕ) → z_line i (m + j) (get_or row.substituted j 0) ≡ put i (z_numberless m row j)
z_put i m row j = assoc_3 (code "Z" ∷ number i) (number (m + j)) (number (get_or row.substituted j 0)) newline

d_put : (i m : ℕ) (row : List Float) (j : ℕ) → d_line i (m + j) (at row j) ≡ put i (d_numberless m row j)
d_put i m row j = assoc_3 (code "D" ∷ number i) (number (m + j)) (double (at row j)) newline

r_put : (i k : ℕ) → r_line i k ≡ put i (r_numberless k)
r_put i k = append_assoc (code "R" ∷ number i) (number k) newline

answer_put : (l i m n : ℕ) (a : Answer) → answer_text l i m n a ≡ put i (answer_numberless l m n a)
unfolding answer_text answer_numberless
answer_put l i m n (Pair value derivative) =
    ap (λ (t : List ℕ). t ++ newline) (assoc_3 (l ∷ number i) (number m) (number n) (pair value derivative))
    ∙ append_assoc (l ∷ number i) (number m ++ number n ++ pair value derivative) newline
answer_put l i m n (Quadruple value1 derivative1 value2 derivative2) =
    ap (λ (t : List ℕ). t ++ pair value2 derivative2 ++ newline) (assoc_3 (code "F" ∷ number i) (number m) (number n) (pair value1 derivative1))
    ∙ assoc_3 (code "F" ∷ number i) (number m ++ number n ++ pair value1 derivative1) (pair value2 derivative2) newline
answer_put l i m n (Refused k) = r_put i k

-- a text of one line, and a text with one line more
one : (i : ℕ) (text : List ℕ) (l : Line) → text ≡ put i l → text ≡ numbered i (l ∷ [])
unfolding numbered
one i text l e = e ∙ sym (append-nil (put i l))

numbered_append : (i : ℕ) (xs ys : List Line) → numbered i xs ++ numbered i ys ≡ numbered i (xs ++ ys)
unfolding numbered
numbered_append i [] ys = refl
numbered_append i (x ∷ xs) ys = append_assoc (put i x) (numbered i xs) (numbered i ys) ∙ ap (λ (t : List ℕ). put i x ++ t) (numbered_append i xs ys)

on : (i : ℕ) (text more : List ℕ) (xs : List Line) (l : Line) → text ≡ numbered i xs → more ≡ put i l → text ++ more ≡ numbered i (xs ++ l ∷ [])
on i text more xs l e h = ap (λ (t : List ℕ). t ++ more) e ∙ ap (λ (t : List ℕ). numbered i xs ++ t) (one i more l h) ∙ numbered_append i xs (l ∷ [])

row_lines_numbered : (i m : ℕ) (row : Slices) (count : ℕ) → row_lines i m row count ≡ numbered i (each_numberless (row_numberless m row) count)
unfolding row_lines each_numberless numbered
row_lines_numbered i m row zero = refl
row_lines_numbered i m row (suc j) =
    let so_far = each_numberless (row_numberless m row) j in
    on i _ _ (so_far ++ v_numberless m row j ∷ []) (z_numberless m row j) (on i (row_lines i m row j) _ so_far (v_numberless m row j) (row_lines_numbered i m row j) (v_put i m row j)) (z_put i m row j)
    ∙ ap (numbered i) (append_assoc so_far (v_numberless m row j ∷ []) (z_numberless m row j ∷ []))

d_lines_numbered : (i m : ℕ) (row : List Float) (count : ℕ) → d_lines i m row count ≡ numbered i (each_numberless (dlmf_numberless m row) count)
unfolding d_lines each_numberless numbered
d_lines_numbered i m row zero = refl
d_lines_numbered i m row (suc j) = on i (d_lines i m row j) _ (each_numberless (dlmf_numberless m row) j) (d_numberless m row j) (d_lines_numbered i m row j) (d_put i m row j)

-- the lines of a row, or its refusal's
row_numbered : (i k : ℕ) (text : List ℕ) (xs : List Line) → text ≡ numbered i xs → cond (eqb k 0) text (r_line i k) ≡ numbered i (cond (eqb k 0) xs (r_numberless k ∷ []))
row_numbered i k text xs e = go (eqb k 0)
  where
    go : (t : Bool) → cond t text (r_line i k) ≡ numbered i (cond t xs (r_numberless k ∷ []))
    go true = e
    go false = one i (r_line i k) (r_numberless k) (r_put i k)

answer_numbered : (l i m n : ℕ) (a : Answer) → answer_text l i m n a ≡ numbered i (answer_numberless l m n a ∷ [])
answer_numbered l i m n a = one i (answer_text l i m n a) (answer_numberless l m n a) (answer_put l i m n a)

text_numbered : (i : ℕ) (op : Operation) (r : Record) → text_of op i r ≡ numbered i (numberless op r)
unfolding text_of row_text dlmf_text numberless
text_numbered i (Row kind) r = let a = row_of kind (mode_of r) r.allowance blank_slices in row_numbered i a.number _ _ (row_lines_numbered i r.m a.after (r.n - r.m + 1))
text_numbered i (DlmfRow kind) r = let a = dlmf_of kind (mode_of r) r.allowance (replicate 200 #0) in row_numbered i a.number _ _ (d_lines_numbered i r.m a.after (r.n - r.m + 1))
text_numbered i (Angular kind) r = answer_numbered (code "A") i r.m r.n (angular_of kind (mode_of r) r.cv r.x)
text_numbered i Radial r = answer_numbered (code "F") i r.m r.n (radial_of (mode_of r) r.cv r.x)
text_numbered i FirstKind r = answer_numbered (code "G") i r.m r.n (first_of (mode_of r) r.cv r.x)

response_numbered : (i : ℕ) (r : Record) → response_to i r ≡ numbered i (numberless_asked (operation_of r.operation) r)
unfolding response_to numberless_asked
response_numbered i r = go (operation_of r.operation)
  where
    go : (asked : Result Operation Refusal) → elim asked [ Ok op ↦ text_of op i r | Err refusal ↦ r_line i (number_of refusal) ] ≡ numbered i (numberless_asked asked r)
    go (Ok op) = text_numbered i op r
    go (Err refusal) = one i (r_line i (number_of refusal)) (r_numberless (number_of refusal)) (r_put i (number_of refusal))

-- ---- and they do not depend on what is ignored

same : (r s : Record) → r.m ≡ s.m → r.n ≡ s.n → r.c ≡ s.c → (asked : Result Operation Refusal) → AgreeFor asked r s → numberless_asked asked r ≡ numberless_asked asked s
unfolding AgreeFor numberless numberless_asked
same r s m n c (Ok (Row kind)) a = rw (m, n, c, a)
same r s m n c (Ok (DlmfRow kind)) a = rw (m, n, c, a)
same r s m n c (Ok (Angular kind)) a = rw (m, n, c, a.0, a.1)
same r s m n c (Ok Radial) a = rw (m, n, c, a.0, a.1)
same r s m n c (Ok FirstKind) a = rw (m, n, c, a.0, a.1)
same r s m n c (Err refusal) a = refl

pub ignored_fields : IgnoredFields
ignored_fields r s a =
    let asked = operation_of r.operation in (
      numberless_asked asked r,
      (λ (i : ℕ). response_numbered i r),
      (λ (j : ℕ). response_numbered j s ∙ ap (λ (k : ℕ). numbered j (numberless_asked (operation_of k) s)) (sym a.operation) ∙ ap (numbered j) (sym (same r s a.m a.n a.c asked a.agree))),
    )

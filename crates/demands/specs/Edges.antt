-- Document 01's modes at the edges, marked † there, in its order, as a table. `proofs/Edges.antt` has one theorem over it.
use Rattle.std.specs.Prelude.{ℕ, List, [], ◌∷◌, map, Float, length, take}
use Rattle.arith.specs.Double.{bits, bits_of}
use Rattle.arith.specs.Root.{sqrt}
use Rattle.requests.specs.Answers.{Answer, Pair, Quadruple, Refused}
use Rattle.requests.specs.declared.checking.Kind.{Kind}
use Rattle.requests.specs.declared.checking.Kind.TheVariants.{Prolate, Oblate}
use Rattle.requests.specs.declared.checking.Mode.{Mode}
use Rattle.rows.specs.Rows.{row_of, blank_slices}
use Rattle.modes.specs.Angular.{angular_of}
use Rattle.modes.specs.Radial.{radial_of}

-- m, n and the bits of c
abbrev mode : ℕ → ℕ → ℕ → Mode
mode m n c = record { m = m; n = n; c = bits c }

-- what is asked: a row with an allowance, an angular pair or both radial kinds with the bits of cv and x, or the square root of the double with these bits
pub data Asked : Type 0 where
  Row : Kind → Mode → ℕ → Asked
  Angular : Kind → Mode → ℕ → ℕ → Asked
  Radial : Mode → ℕ → ℕ → Asked
  Root : ℕ → Asked

-- what is asked; the refusal, or 0; and the bits of the first values answered, as many as are listed
pub record Edge : Type 0 where
  pub asked : Asked
  pub refusal : ℕ
  pub values : List ℕ

abbrev edge : Asked → ℕ → List ℕ → Edge
edge asked k vs = record { asked = asked; refusal = k; values = vs }

unfoldable pub edges : List Edge
edges =
    -- m 3, n 5, c 0: 12, 20, 30
    edge (Row Prolate (mode 3 5 0) 0) 0 (0x4028_0000_0000_0000 ∷ 0x4034_0000_0000_0000 ∷ 0x403e_0000_0000_0000 ∷ []) ∷
    edge (Row Oblate (mode 3 5 0) 0) 0 (0x4028_0000_0000_0000 ∷ 0x4034_0000_0000_0000 ∷ 0x403e_0000_0000_0000 ∷ []) ∷
    -- m 0, n 2, c 0: 0, 2, 6
    edge (Row Prolate (mode 0 2 0) 0) 0 (0x0000_0000_0000_0000 ∷ 0x4000_0000_0000_0000 ∷ 0x4018_0000_0000_0000 ∷ []) ∷
    edge (Row Oblate (mode 0 2 0) 0) 0 (0x0000_0000_0000_0000 ∷ 0x4000_0000_0000_0000 ∷ 0x4018_0000_0000_0000 ∷ []) ∷
    -- n − m 199 passes 4, 200 doesn't
    edge (Row Prolate (mode 0 199 0) 0) 0 [] ∷
    edge (Row Prolate (mode 0 200 0) 0) 4 [] ∷
    -- m 199 passes, 200 doesn't
    edge (Row Prolate (mode 199 199 0) 0) 0 [] ∷
    edge (Row Prolate (mode 200 200 0) 0) 4 [] ∷
    -- c −0 passes 5; the double below it doesn't
    edge (Row Prolate (mode 0 0 0x8000_0000_0000_0000) 0) 0 (0x0000_0000_0000_0000 ∷ []) ∷
    edge (Row Prolate (mode 0 0 0x8000_0000_0000_0001) 0) 5 [] ∷
    -- angular n = m, c = 175: refused 6; the double before 175 passes
    edge (Angular Prolate (mode 0 0 0x4065_e000_0000_0000) 0 0) 6 [] ∷
    edge (Angular Oblate (mode 199 199 0x4065_e000_0000_0000) 0 0) 6 [] ∷
    edge (Angular Prolate (mode 0 0 0x4065_dfff_ffff_ffff) 0 0) 0 [] ∷
    -- row n = m, c = 291: refused 6
    edge (Row Prolate (mode 0 0 0x4072_3000_0000_0000) 65535) 6 [] ∷
    edge (Row Oblate (mode 199 199 0x4072_3000_0000_0000) 65535) 6 [] ∷
    -- radial m = n = 175, c 0 passes 6; 176 doesn't
    edge (Radial (mode 175 175 0) 0 0) 0 [] ∷
    edge (Radial (mode 176 176 0) 0 0) 6 [] ∷
    -- m n c cv x all 0, angular: 1 and +0
    edge (Angular Prolate (mode 0 0 0) 0 0) 0 (0x3ff0_0000_0000_0000 ∷ 0x0000_0000_0000_0000 ∷ []) ∷
    -- m = n = 1, c 0, cv 2: derivative −1e100 at x = 1, 1e100 at −1
    edge (Angular Prolate (mode 1 1 0) 0x4000_0000_0000_0000 0x3ff0_0000_0000_0000) 0 (0x0000_0000_0000_0000 ∷ 0xd4b2_49ad_2594_c37d ∷ []) ∷
    edge (Angular Prolate (mode 1 1 0) 0x4000_0000_0000_0000 0xbff0_0000_0000_0000) 0 (0x0000_0000_0000_0000 ∷ 0x54b2_49ad_2594_c37d ∷ []) ∷
    -- m 0, n 2, c 0, cv 6: second kind 1e300 twice
    edge (Radial (mode 0 2 0) 0x4018_0000_0000_0000 0) 0 (0x8000_0000_0000_0000 ∷ 0x0000_0000_0000_0000 ∷ 0x7e37_e43c_8800_759c ∷ 0x7e37_e43c_8800_759c ∷ []) ∷
    -- allowance 0, c 1: refused 10; c 0 accepted
    edge (Row Prolate (mode 0 0 0x3ff0_0000_0000_0000) 0) 10 [] ∷
    edge (Row Oblate (mode 0 0 0x3ff0_0000_0000_0000) 0) 10 [] ∷
    edge (Row Prolate (mode 0 0 0) 0) 0 (0x0000_0000_0000_0000 ∷ []) ∷
    -- root of 2: 3ff6a09e667f3bcd
    edge (Root 0x4000_0000_0000_0000) 0 (0x3ff6_a09e_667f_3bcd ∷ []) ∷
    []

-- ---- what the definitions answer

-- the refusal, or 0, and the values
unfoldable pub of_answer : Answer → ℕ × List Float
of_answer (Pair value derivative) = (0, value ∷ derivative ∷ [])
of_answer (Quadruple value1 derivative1 value2 derivative2) = (0, value1 ∷ derivative1 ∷ value2 ∷ derivative2 ∷ [])
of_answer (Refused k) = (k, [])

unfoldable pub answer_to : Asked → ℕ × List Float
answer_to (Row kind x allowance) = let a = row_of kind x allowance blank_slices in (a.number, a.after.values)
answer_to (Angular kind x cv at) = of_answer (angular_of kind x (bits cv) (bits at))
answer_to (Radial x cv at) = of_answer (radial_of x (bits cv) (bits at))
answer_to (Root x) = (0, sqrt (bits x) ∷ [])

-- as an edge has it: the bits of as many values as are listed
abbrev pub answered : Edge → ℕ × List ℕ
answered e = let a = answer_to e.asked in (a.0, map bits_of (take (length e.values) a.1))

-- Card 2, the first kind off the disc: what it has in common with operation 5, as a statement about the definitions of the public functions, and the refusals of both at the edges, as a table. `proofs/Card2.antt` proves both.
use Rattle.std.specs.Prelude.{ℕ, ◌≡◌, List, [], ◌∷◌, Float}
use Rattle.arith.specs.Double.{bits}
use Rattle.requests.specs.Answers.{Answer, Pair, Quadruple, Refused}
use Rattle.requests.specs.declared.checking.Mode.{Mode}
use Rattle.modes.specs.Radial.{radial_of}
use Rattle.modes.specs.FirstKind.{first_of}

-- of both kinds the first, a refusal as it is; operation 5 is never answered by a pair
unfoldable pub first_pair : Answer → Answer
first_pair (Quadruple value1 derivative1 value2 derivative2) = Pair value1 derivative1
first_pair (Pair value derivative) = Pair value derivative
first_pair (Refused k) = Refused k

-- at every x operation 8 answers what operation 5 answers of the first kind, and is refused where it is, by the same number
abbrev pub FirstKindOfBoth : Type 0
FirstKindOfBoth = (mode : Mode) (cv x : Float) → first_of mode cv x ≡ first_pair (radial_of mode cv x)

-- a mode, the bits of cv and x, and the first of 4 to 8 and 11 that applies, or 0
pub record RadialEdge : Type 0 where
  pub mode : Mode
  pub cv : Float
  pub x : Float
  pub refusal : ℕ

abbrev edge : ℕ → ℕ → ℕ → ℕ → ℕ → ℕ → RadialEdge
edge m n c cv x k = record { mode = record { m = m; n = n; c = bits c }; cv = bits cv; x = bits x; refusal = k }

unfoldable pub radial_edges : List RadialEdge
radial_edges =
    -- x −0 passes 8; the double below it doesn't, nor do NaN and the infinities; the largest double passes, with c 0
    edge 0 0 0 0 0x8000_0000_0000_0000 0 ∷
    edge 0 0 0 0 0x8000_0000_0000_0001 8 ∷
    edge 0 0 0 0 0x7ff8_0000_0000_0000 8 ∷
    edge 0 0 0 0 0x7ff0_0000_0000_0000 8 ∷
    edge 0 0 0 0 0xfff0_0000_0000_0000 8 ∷
    edge 0 0 0 0 0x7fef_ffff_ffff_ffff 0 ∷
    -- c 100: m = n = 1 has 2N + m 251, which passes 11 at x 0.5; m = n = 2 has 252, which doesn't, but at x 0 and −0 it does
    edge 1 1 0x4059_0000_0000_0000 0 0x3fe0_0000_0000_0000 0 ∷
    edge 2 2 0x4059_0000_0000_0000 0 0x3fe0_0000_0000_0000 11 ∷
    edge 2 2 0x4059_0000_0000_0000 0 0x0000_0000_0000_0000 0 ∷
    edge 2 2 0x4059_0000_0000_0000 0 0x8000_0000_0000_0000 0 ∷
    -- m 0, n 1, c 100.5: H is 101 and 2N 252. It is not `rmn1`'s own limit, 125, which is doubled
    edge 0 1 0x4059_2000_0000_0000 0 0x3fe0_0000_0000_0000 11 ∷
    -- c 100 and x 2 pass; the double after 2 doesn't
    edge 0 0 0x4059_0000_0000_0000 0 0x4000_0000_0000_0000 0 ∷
    edge 0 0 0x4059_0000_0000_0000 0 0x4000_0000_0000_0001 11 ∷
    -- c 3 and the double nearest to 200/3: the product is above 200, and rounds to it
    edge 0 0 0x4008_0000_0000_0000 0 0x4050_aaaa_aaaa_aaab 0 ∷
    -- 8 comes before 11, 7 before 8, 6 before 7, 5 before 6, 4 before 5
    edge 2 2 0x4059_0000_0000_0000 0 0xbfe0_0000_0000_0000 8 ∷
    edge 2 2 0x4059_0000_0000_0000 0x7ff0_0000_0000_0000 0xbfe0_0000_0000_0000 7 ∷
    edge 176 176 0 0x7ff0_0000_0000_0000 0xbfe0_0000_0000_0000 6 ∷
    edge 176 176 0xbff0_0000_0000_0000 0x7ff0_0000_0000_0000 0xbfe0_0000_0000_0000 5 ∷
    edge 200 200 0xbff0_0000_0000_0000 0x7ff0_0000_0000_0000 0xbfe0_0000_0000_0000 4 ∷
    []

-- a mode, the bits of cv and x, and the bits of value and derivative off the disc, as the program prints them: m = n = 0, c 1, x 1 and m = n = 1, c 2, x 1/2, each with its characteristic value
abbrev pub off_disc : List (Mode × ℕ × ℕ × Answer)
off_disc =
    (record { m = 0; n = 0; c = bits 0x3ff0_0000_0000_0000 }, 0xbfd6_4f80_7042_0b40, 0x3ff0_0000_0000_0000, Pair (bits 0x3fe7_e9e1_9575_a71f) (bits 0xbfd2_04ad_f676_f036)) ∷
    (record { m = 1; n = 1; c = bits 0x4000_0000_0000_0000 }, 0x3ff1_e598_3d81_2c29, 0x3fe0_0000_0000_0000, Pair (bits 0x3fde_d8fc_2f45_6c20) (bits 0xbf9c_220d_cda5_92a0)) ∷
    []

-- Card 4, oblate rows as DLMF has them: answers of operations 6 and 7, as a table. `proofs/Card4.antt` has one theorem over it. That nothing moves at c = 0 is in `RowLaws.antt`, the rule itself in `Demand3.antt`.
use Rattle.std.specs.Prelude.{ℕ, List, [], ◌∷◌}
use Rattle.arith.specs.Double.{bits}
use Rattle.requests.specs.declared.checking.Kind.{Kind}
use Rattle.requests.specs.declared.checking.Kind.TheVariants.{Prolate, Oblate}
use Rattle.requests.specs.declared.checking.Mode.{Mode}

-- m = n = 0 with the bits of c
abbrev lowest : ℕ → Mode
lowest c = record { m = 0; n = 0; c = bits c }

-- a kind, a mode, and the bits of the eigenvalue
abbrev pub eigenvalues : List (Kind × Mode × ℕ)
eigenvalues =
    -- c 9.9e-11, below 1e-10: c × c with either sign
    (Oblate, lowest 0x3ddb_3681_73d3_0612, 0x3bc7_2457_4a66_b1eb) ∷
    (Prolate, lowest 0x3ddb_3681_73d3_0612, 0xbbc7_2457_4a66_b1eb) ∷
    -- c 1e-160, whose square has few digits left
    (Oblate, lowest 0x1eb6_7e9c_127b_6e74, 0x0000_0000_0000_07e8) ∷
    -- c −0
    (Oblate, lowest 0x8000_0000_0000_0000, 0x0000_0000_0000_0000) ∷
    -- c 2: 4 is added to the value, −1.5945, which the checker bisects
    (Oblate, lowest 0x4000_0000_0000_0000, 0x4003_3e7a_579d_6554) ∷
    []

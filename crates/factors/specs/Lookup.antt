-- Card 7: a factor has the same bits whichever way it came. Statements only: `proofs/Quotient.antt` proves the last, `proofs/Places.antt` the others.
use Rattle.std.specs.Prelude.{ℕ, ◌+◌, ◌*◌, ◌<◌, ◌≡◌, false, cond, ◌&&◌, List, ltb, Float, get_or, length}
use Rattle.std.specs.Float.{binary64}
use Rattle.std.specs.Float.Ieee.{round}
use Rattle.arith.specs.Double.{bits, bits_of}
use Rattle.factors.specs.Factors.{factor_a, factor_table}

-- where the table has entry i of a family: four orders, two parities, 200 entries each
abbrev pub place : ℕ → ℕ → ℕ → ℕ
place m parity i = 400 * m + 200 * parity + i

-- The whole table: it has 1,600 places, and each holds the bits of the quotient.
abbrev pub TableLaw : Type 0
TableLaw =
    (length factor_table ≡ 1600)
    × ((m parity i : ℕ) → m < 4 → parity < 2 → i < 200 → get_or factor_table (place m parity i) 0 ≡ bits_of (factor_a m (2 * i + parity)))

-- the factor of entry i of a family, from the table t where it has it, and elsewhere worked out
abbrev pub looked_up : List ℕ → ℕ → ℕ → ℕ → Float
looked_up t m parity i = cond (ltb m 4 && ltb i 200) (bits (get_or t (place m parity i) 0)) (factor_a m (2 * i + parity))

-- It is the same either way, for every order and every entry.
abbrev pub LookupLaw : Type 0
LookupLaw = (m parity i : ℕ) → parity < 2 → looked_up factor_table m parity i ≡ factor_a m (2 * i + parity)

-- The quotient is rounded once: it is the double nearest to the exact one.
abbrev pub OnceRounded : Type 0
OnceRounded =
    (m k : ℕ) → m + k < 4096
    → factor_a m k ≡ round binary64 false ((2 * m + k + 2) * (2 * m + k + 1)) ((2 * (m + k) + 3) * (2 * (m + k) + 5))

-- The search for the order from which backward recurrence starts, which `msta1` and `msta2` share, with the names of the source. Definitions only.
use Rattle.std.specs.Prelude.{ℕ, zero, suc, ◌+◌, Bool, true, false, ◌&&◌, eqb, ltb, leb, Float}
use Rattle.arith.specs.Double.{◌⊖◌, ◌⊗◌, ◌⊘◌, dbl, bits, #0·5, #1}
use Rattle.arith.specs.Truncation.{whole_part}
use Rattle.logarithms.specs.Functions.{log10}

-- the source's numbers 6.28 and 1.36
abbrev pub #6·28 : Float
#6·28 = bits 0x4019_1eb8_51eb_851f

abbrev pub #1·36 : Float
#1·36 = bits 0x3ff5_c28f_5c28_f5c3

-- how many decimal digits below 1 the Bessel function of order n is at a0, about
unfoldable pub envj : Float → ℕ → Float
envj a0 n = #0·5 ⊗ log10 (#6·28 ⊗ dbl n) ⊖ dbl n ⊗ log10 (#1·36 ⊗ a0 ⊘ dbl n)

-- and how many more than obj: the source's f
abbrev pub excess : Float → Float → ℕ → Float
excess a0 obj n = envj a0 n ⊖ obj

-- a trial order may be from 1 to 100,000
unfoldable pub may_try : ℕ → Bool
may_try n = ltb 0 n && leb n 100000

-- Where the line through f0 and f1 at the orders n0 and n1 is zero, cut to a whole number. Whole numbers below zero, which may not be tried either, are 0 here. The difference of the orders is exact.
abbrev pub meeting : ℕ → Float → ℕ → Float → ℕ
meeting n0 f0 n1 f1 = whole_part (dbl n1 ⊖ (dbl n1 ⊖ dbl n0) ⊘ (#1 ⊖ f0 ⊘ f1))

-- `left` more steps from the orders n0 and n1, until one gives n1 again; 0 where an order may not be tried
unfoldable pub secant : Float → Float → ℕ → ℕ → Float → ℕ → Float → ℕ
secant a0 obj zero n0 f0 n1 f1 = n1
secant a0 obj (suc left) n0 f0 n1 f1 =
    let nn = meeting n0 f0 n1 f1 in
    elim (may_try nn) [ false ↦ 0 | true ↦ elim (eqb nn n1) [ true ↦ nn | false ↦ secant a0 obj left n1 f1 nn (excess a0 obj nn) ] ]

-- from n0 and n0 + 5 on, at most 20 steps
unfoldable pub searched : Float → Float → ℕ → ℕ
searched a0 obj n0 =
    let found = secant a0 obj 20 n0 (excess a0 obj n0) (n0 + 5) (excess a0 obj (n0 + 5)) in
    elim (may_try n0) [ false ↦ 0 | true ↦ elim (may_try (n0 + 5)) [ false ↦ 0 | true ↦ found ] ]

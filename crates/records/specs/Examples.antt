-- Worked examples of the definitions, each table with one theorem over it.
use Rattle.std.specs.Prelude.{◌≡◌, refl, List, [], ◌∷◌, ◌++◌, map, ℕ, Float, take, replicate}
use Prim.Native.Char.{code}
use Prim.Native.String.{String}
use Rattle.std.specs.Float.{nan}
use Rattle.std.specs.Float.Ieee.{of_bits, to_bits}
use Rattle.arith.specs.Double.{bits, #0, #1, #2}
use Rattle.records.specs.declared.record.Next.{Next}
use Rattle.records.specs.declared.record.Next.TheVariants.{Whole, Unmarked, Cut, End}
use Rattle.records.specs.Record.{number_at, next_at}
use Rattle.records.specs.Text.{ascii, digit, decimal_in, hexadecimal}
use Rattle.records.specs.Lines.{v_line, z_line, d_line, pair_line, r_line}

-- ---- records

-- document 01's two records: operation 1 with n 2, then operation 3, all else zero
abbrev pub first : List ℕ
first = 0x53 ∷ 0x57 ∷ 1 ∷ 0 ∷ 0 ∷ 2 ∷ replicate 27 0

abbrev pub second : List ℕ
second = 0x53 ∷ 0x57 ∷ 3 ∷ replicate 30 0

-- operation 4, m 0102, n 0304, allowance fffe, c 1, cv a NaN that is not the one written, x -0
abbrev pub third : List ℕ
third =
    0x53 ∷ 0x57 ∷ 4 ∷ 0x02 ∷ 0x01 ∷ 0x04 ∷ 0x03 ∷ 0xfe ∷ 0xff ∷
    (replicate 6 0 ++ 0xf0 ∷ 0x3f ∷ 0x01 ∷ replicate 5 0 ++ 0xf8 ∷ 0xff ∷ replicate 7 0 ++ 0x80 ∷ [])

-- the same as the new kind: the other mark, and two more bytes of allowance
abbrev pub fourth : List ℕ
fourth =
    0x53 ∷ 0x56 ∷ 4 ∷ 0x02 ∷ 0x01 ∷ 0x04 ∷ 0x03 ∷ 0xfe ∷ 0xff ∷ 0x00 ∷ 0x80 ∷
    (replicate 6 0 ++ 0xf0 ∷ 0x3f ∷ 0x01 ∷ replicate 5 0 ++ 0xf8 ∷ 0xff ∷ replicate 7 0 ++ 0x80 ∷ [])

-- An input, an index, and what the input has from there on.
abbrev pub inputs : List (List ℕ × ℕ × Next)
inputs =
    (first ++ second, 0, Whole (record { operation = 1; m = 0; n = 2; allowance = 0; c = #0; cv = #0; x = #0 }) 33) ∷
    (first ++ second, 33, Whole (record { operation = 3; m = 0; n = 0; allowance = 0; c = #0; cv = #0; x = #0 }) 33) ∷
    (third ++ fourth, 0, Whole (record { operation = 4; m = 0x0102; n = 0x0304; allowance = 0xfffe; c = #1; cv = nan; x = bits 0x8000_0000_0000_0000 }) 33) ∷
    (third ++ fourth, 33, Whole (record { operation = 4; m = 0x0102; n = 0x0304; allowance = 0x8000fffe; c = #1; cv = nan; x = bits 0x8000_0000_0000_0000 }) 35) ∷
    -- all has been read
    (first ++ second, 66, End) ∷
    ([], 0, End) ∷
    -- only one byte is there: a mark's first, and one that starts no mark
    (0x53 ∷ [], 0, Cut) ∷
    (0x57 ∷ [], 0, Cut) ∷
    -- one byte, or all after the mark, is missing
    (first ++ take 32 second, 33, Cut) ∷
    (0x53 ∷ 0x57 ∷ [], 0, Cut) ∷
    -- a new record needs two bytes more than an old one
    (take 34 fourth, 0, Cut) ∷
    (take 33 fourth, 0, Cut) ∷
    -- the mark turned round; one byte of it alone; neither mark and nothing behind it
    (0x57 ∷ 0x53 ∷ replicate 31 0, 0, Unmarked) ∷
    (0x53 ∷ replicate 32 0, 0, Unmarked) ∷
    (0x53 ∷ 0x58 ∷ [], 0, Unmarked) ∷
    []

pub inputs_right : map (λ (row : List ℕ × ℕ × Next). next_at row.0 row.1) inputs ≡ map (λ (row : List ℕ × ℕ × Next). row.2) inputs
unfolding next_at number_at of_bits
inputs_right = refl

-- ---- lines

-- 6, the third value of document 01's example
abbrev pub six : Float
six = bits 0x4018_0000_0000_0000

-- A line and its text. The first three are document 01's `V` lines.
abbrev pub lines : List (List ℕ × String)
lines =
    (v_line 0 0 0 #0 #0 #0, "V 0 0 0 0000000000000000 0000000000000000 0000000000000000\n") ∷
    (v_line 0 1 0 #2 #2 #2, "V 0 1 0 4000000000000000 4000000000000000 4000000000000000\n") ∷
    (v_line 0 2 0 six six six, "V 0 2 0 4018000000000000 4018000000000000 4018000000000000\n") ∷
    -- each word another
    (v_line 10 199 4294967295 #2 #1 six, "V 10 199 4294967295 4000000000000000 3ff0000000000000 4018000000000000\n") ∷
    (z_line 0 1 0, "Z 0 1 0\n") ∷
    (z_line 10 199 1, "Z 10 199 1\n") ∷
    -- the root of 2, and a NaN
    (d_line 7 3 (bits 0x3ff6_a09e_667f_3bcd), "D 7 3 3ff6a09e667f3bcd\n") ∷
    (d_line 7 4 nan, "D 7 4 7ff8000000000000\n") ∷
    -- document 01's `A` line, and Card 2's `G` line
    (pair_line (code "A") 1 0 0 #1 #0, "A 1 0 0 3ff0000000000000 0000000000000000\n") ∷
    (pair_line (code "G") 10 199 200 #2 six, "G 10 199 200 4000000000000000 4018000000000000\n") ∷
    -- the largest number of a record
    (r_line 18446744073709551615 10, "R 18446744073709551615 10\n") ∷
    []

pub lines_right : map (λ (row : List ℕ × String). row.0) lines ≡ map (λ (row : List ℕ × String). ascii row.1) lines
unfolding decimal_in hexadecimal digit of_bits to_bits
lines_right = refl

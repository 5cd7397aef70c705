-- A record's bytes as a record (document 01, 'A record comes in', and Card 6). `input` is all bytes that were read, and `at` the index at which the record starts.
use Rattle.std.specs.Prelude.{Bool, cond, ◌&&◌, List, ℕ, zero, suc, ◌+◌, ◌-◌, ◌*◌, eqb, ltb, leb, Float, length, get_or}
use Rattle.arith.specs.Double.{bits}
use Rattle.records.specs.declared.record.Record.{Record}
use Rattle.records.specs.declared.record.Next.{Next}
use Rattle.records.specs.declared.record.Next.TheVariants.{Whole, Unmarked, Cut, End}

-- the number of the `width` bytes from `at` on, little-endian
unfoldable pub number_at : List ℕ → ℕ → ℕ → ℕ
number_at input at zero = 0
number_at input at (suc width) = get_or input at 0 + 256 * number_at input (at + 1) width

-- the double whose bits are the 8 bytes from `at` on
abbrev pub double_at : List ℕ → ℕ → Float
double_at input at = bits (number_at input at 8)

-- a mark is at `at`: hexadecimal 53 and this byte
abbrev pub marked : ℕ → List ℕ → ℕ → Bool
marked second input at = eqb (get_or input at 0) 0x53 && eqb (get_or input (at + 1) 0) second

-- how many bytes the allowance has, by the mark: 2 after 53 57, 4 after 53 56, and 0 where neither mark is there
abbrev pub width_at : List ℕ → ℕ → ℕ
width_at input at = cond (marked 0x57 input at) 2 (cond (marked 0x56 input at) 4 0)

-- the fields after the mark, the allowance having `width` bytes
abbrev pub record_at : List ℕ → ℕ → ℕ → Record
record_at input at width = record {
  operation = get_or input (at + 2) 0;
  m = number_at input (at + 3) 2;
  n = number_at input (at + 5) 2;
  allowance = number_at input (at + 7) width;
  c = double_at input (at + 7 + width);
  cv = double_at input (at + 15 + width);
  x = double_at input (at + 23 + width);
}

-- What the input has from `at` on: nothing, where all of it has been read; a record cut short, where its mark cannot be read in full; no record, where neither mark is there; a record cut short, where its length is not reached; else a record.
unfoldable pub next_at : List ℕ → ℕ → Next
next_at input at =
    let left = length input - at in
    let width = width_at input at in
    cond (leb (length input) at) End
    (cond (ltb left 2) Cut
    (cond (eqb width 0) Unmarked
    (cond (ltb left (31 + width)) Cut
    (Whole (record_at input at width) (31 + width)))))

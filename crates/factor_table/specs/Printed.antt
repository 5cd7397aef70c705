-- What the program prints. Definitions only.
use Rattle.std.specs.Prelude.{ℕ, zero, suc, List, [], ◌++◌, get_or}
use Rattle.records.specs.Lines.{bits_line}
use Rattle.factors.specs.Factors.{factor_table}

-- the lines of the first n numbers
unfoldable pub bits_lines : List ℕ → ℕ → List ℕ
bits_lines numbers zero = []
bits_lines numbers (suc i) = bits_lines numbers i ++ bits_line (get_or numbers i 0)

-- those of the table
abbrev pub printed : List ℕ
printed = bits_lines factor_table 1600

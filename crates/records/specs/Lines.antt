-- The lines that the program writes (document 01, 'A record comes in'). `index` is the number of the record.
use Rattle.std.specs.Prelude.{List, ◌∷◌, ◌++◌, ℕ, Float}
use Rattle.arith.specs.Double.{bits_of}
use Rattle.records.specs.Text.{ascii, decimal, hexadecimal}

-- a space and a number
abbrev pub number : ℕ → List ℕ
number n = ascii " " ++ decimal n

-- a space and the 16 digits of a double's bits
abbrev pub double : Float → List ℕ
double x = ascii " " ++ hexadecimal 16 (bits_of x)

-- the end of a line
abbrev pub newline : List ℕ
newline = ascii "\n"

-- a value with its bracket, which end a line
abbrev pub bracket : Float → Float → Float → List ℕ
bracket value lower upper = double value ++ double lower ++ double upper ++ newline

-- `V`: a mode of a row
abbrev pub v_line : ℕ → ℕ → ℕ → Float → Float → Float → List ℕ
v_line index mode steps value lower upper = ascii "V" ++ number index ++ number mode ++ number steps ++ bracket value lower upper

-- `Z`, after each `V`: was 1e-30 put in for a zero pivot, 1 for yes and 0 for no
abbrev pub z_line : ℕ → ℕ → ℕ → List ℕ
z_line index mode substituted = ascii "Z" ++ number index ++ number mode ++ number substituted ++ newline

-- `D`: a mode of a row in DLMF's form
abbrev pub d_line : ℕ → ℕ → Float → List ℕ
d_line index mode value = ascii "D" ++ number index ++ number mode ++ double value ++ newline

-- a value and its derivative
abbrev pub pair : Float → Float → List ℕ
pair value derivative = double value ++ double derivative

-- `A`, the angular pair of a mode, and `G`, its first radial kind: the same but for the letter
abbrev pub pair_line : ℕ → ℕ → ℕ → ℕ → Float → Float → List ℕ
pair_line letter index m n value derivative = letter ∷ number index ++ number m ++ number n ++ pair value derivative ++ newline

-- `F`: value and derivative of a mode's first radial kind, then of its second
abbrev pub f_line : ℕ → ℕ → ℕ → Float → Float → Float → Float → List ℕ
f_line index m n value1 derivative1 value2 derivative2 = ascii "F" ++ number index ++ number m ++ number n ++ pair value1 derivative1 ++ pair value2 derivative2 ++ newline

-- `R`: a refusal
abbrev pub r_line : ℕ → ℕ → List ℕ
r_line index refusal = ascii "R" ++ number index ++ number refusal ++ newline

-- of Card 7's table: the 16 digits of a double's bits, alone
abbrev pub bits_line : ℕ → List ℕ
bits_line b = hexadecimal 16 b ++ newline

-- How far the sums over expansion coefficients run. `offset` is n − m. Definitions only.
use Rattle.std.specs.Prelude.{ℕ, ◌+◌, ◌-◌, ◌/◌, ◌<◌, ◌≤◌, ◌≡◌, true, false, cond, Float}
use Rattle.std.specs.Float.Ieee.{lt, le}
use Rattle.arith.specs.Double.{◌⊕◌, ◌⊘◌, dbl, bits, #0, #2, #1e-10}
use Rattle.arith.specs.Truncation.{whole_part}

-- H = (n − m)/2 + c in doubles
abbrev pub h_of : ℕ → Float → Float
h_of offset c = dbl offset ⊘ #2 ⊕ c

-- N = 25 + H truncated
unfoldable pub terms_of : ℕ → Float → ℕ
terms_of offset c = 25 + whole_part (h_of offset c)

-- `sckb` takes a c of up to 1e-10 as 1e-10
unfoldable pub clamped : Float → Float
clamped c = cond (le c #1e-10) #1e-10 c

abbrev pub power_terms_of : ℕ → Float → ℕ
power_terms_of offset c = terms_of offset (clamped c)

-- (n − m)/2 + c truncated, with n − m halved as a whole number: `aswfa` and `rmn2so` add their own numbers to it
abbrev pub cut_of : ℕ → Float → ℕ
cut_of offset c = whole_part (dbl (offset / 2) ⊕ c)

-- ---- what every routine over coefficients asks of its caller: document 01's refusals 4, 5 and 6 do not apply

abbrev pub #175 : Float
#175 = bits 0x4065_e000_0000_0000

abbrev pub Usable : ℕ → ℕ → Float → Type 0
Usable m n c = (m < 200) × (m ≤ n) × (n - m < 200) × (lt c #0 ≡ false) × (lt (h_of (n - m) c) #175 ≡ true)

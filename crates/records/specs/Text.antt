-- Text in a buffer, and numbers as text. A byte of text is its ASCII code.
use Rattle.std.specs.Prelude.{◌≡◌, true, false, cond, List, [], ◌∷◌, ◌++◌, ℕ, zero, suc, ◌+◌, ◌-◌, ◌/◌, ◌%◌, ◌≤◌, ltb, length, take, drop}
use Prim.Native.Char.{code}
use Prim.Native.String.{String, [] as ε, ◌∷◌ as ◌then◌}

-- The buffer `after` is `before` with `text` put at index `from`; `to` is the index after the text. Nothing else differs.
pub record Put (before after : List ℕ) (from to : ℕ) (text : List ℕ) : Type 0 where
  pub ends : to ≡ from + length text
  pub fits : to ≤ length before
  pub shows : after ≡ take from before ++ text ++ drop to before

-- the bytes of a text
abbrev pub ascii : String → List ℕ
ascii ε = []
ascii (c then text) = code c ∷ ascii text

-- the byte of a digit: `0` to `9`, then `a` to `f`
unfoldable pub digit : ℕ → ℕ
digit d = cond (ltb d 10) (code "0" + d) (code "a" + (d - 10))

-- a number of at most `most` decimal digits, with no zero in front
unfoldable pub decimal_in : ℕ → ℕ → List ℕ
decimal_in zero n = []
decimal_in (suc most) n = elim (ltb n 10) [ true ↦ digit n ∷ [] | false ↦ decimal_in most (n / 10) ++ digit (n % 10) ∷ [] ]

-- a number below 2 ^ 64 in decimal
abbrev pub decimal : ℕ → List ℕ
decimal n = decimal_in 20 n

-- the last k hexadecimal digits of a number
unfoldable pub hexadecimal : ℕ → ℕ → List ℕ
hexadecimal zero n = []
hexadecimal (suc k) n = hexadecimal k (n / 16) ++ digit (n % 16) ∷ []

-- The arctangent. Definitions only.
use Rattle.std.specs.Prelude.{ℕ, suc, ◌+◌, ◌-◌, ◌*◌, ◌/◌, ◌^◌, ◌≤◌, ◌<◌, ◌≡◌, ◌⊎◌}
use Rattle.arctangents.specs.Arctangent.{NotAbove, NotBelow}
use Rattle.circle.specs.Inside.Signed.{plus, less}

-- ---- the arctangent
-- y is the whole part of a / b * 2 ^ 58, below 2
pub record IsFine (a b y : ℕ) : Type 0 where
  pub most : y ≤ 2 ^ 59
  pub range : a ≤ 2 * b
  pub low : y * b ≤ a * 2 ^ 58
  pub high : a * 2 ^ 58 ≤ suc y * b

-- A cosine of at most `top` and a sine of at least `bottom`, from the code's by 2 ^ -50, and the first times m * 2 ^ (e - 2148) is no more than the second.
pub record Above (cn c sn s m e : ℕ) : Type 0 where
  pub top : ℕ
  pub bottom : ℕ
  pub east_side : plus cn c + 8192 ≤ top + less cn c
  pub north_side : bottom + less sn s + 8192 ≤ plus sn s
  pub sure : (a b : ℕ) → a * (2 ^ 1074 * 2 ^ 1074) ≡ m * 2 ^ e * b → top * a ≤ bottom * b

-- The other way round: a cosine of at least `top` and a sine of at most `bottom`.
pub record Below (cn c sn s m e : ℕ) : Type 0 where
  pub top : ℕ
  pub bottom : ℕ
  pub east_side : top + less cn c + 8192 ≤ plus cn c
  pub north_side : plus sn s + 8192 ≤ bottom + less sn s
  pub sure : (a b : ℕ) → a * (2 ^ 1074 * 2 ^ 1074) ≡ m * 2 ^ e * b → bottom * b ≤ top * a

-- A cosine c and a sine s turned by 2 ^ -40: c less s / 2 ^ 40, and s with c / 2 ^ 40.
pub record IsFurther (c s cn' c' sn' s' : ℕ) : Type 0 where
  pub cosine : plus cn' c' + s / 2 ^ 40 ≡ less cn' c' + c
  pub sine : plus sn' s' ≡ s + c / 2 ^ 40
  pub sign : less sn' s' ≡ 0

-- the arctangent of a / b, which is m * 2 ^ (e - 2148), is between low / 2 ^ 58 and up / 2 ^ 58
pub record Between (low up m e : ℕ) : Type 0 where
  pub from_below : (a b : ℕ) → a * (2 ^ 1074 * 2 ^ 1074) ≡ m * 2 ^ e * b → 0 < low → (n : ℕ) → 600 ≤ n → NotAbove a b low (2 ^ 58) n
  pub from_above : (a b : ℕ) → a * (2 ^ 1074 * 2 ^ 1074) ≡ m * 2 ^ e * b → (n : ℕ) → 600 ≤ n → NotBelow a b up (2 ^ 58) n

-- what holds of the code's cosine and sine at any number up to 2: neither is much above 1, the sine is not negative, and one of them is above 1 / 8
pub record Good (cn c sn s : ℕ) : Type 0 where
  pub c_most : c ≤ 9 * 2 ^ 60
  pub s_most : s ≤ 9 * 2 ^ 60
  pub s_sign : less sn s ≤ plus sn s + 8192
  pub either : (2 ^ 60 + less cn c ≤ plus cn c) ⊎ (2 ^ 60 + less sn s ≤ plus sn s)

-- the sine is at most a / b times the cosine, but for 2 ^ -49 of each, and the other way round
abbrev pub NearlyBelow : ℕ → ℕ → ℕ → ℕ → ℕ → ℕ → Type 0
NearlyBelow cn c sn s m e = (a b : ℕ) → a * (2 ^ 1074 * 2 ^ 1074) ≡ m * 2 ^ e * b → plus sn s * b + less cn c * a ≤ less sn s * b + plus cn c * a + 2 ^ 14 * (a + b)

abbrev pub NearlyAbove : ℕ → ℕ → ℕ → ℕ → ℕ → ℕ → Type 0
NearlyAbove cn c sn s m e = (a b : ℕ) → a * (2 ^ 1074 * 2 ^ 1074) ≡ m * 2 ^ e * b → plus cn c * a + less sn s * b ≤ less cn c * a + plus sn s * b + 2 ^ 14 * (a + b)

-- closer bounds
pub record IsHalved (low up m e low' up' : ℕ) : Type 0 where
  pub order : low' < up'
  pub upto : up' ≤ 2 ^ 59
  pub closer : up' - low' < up - low
  pub bounds : Between low' up' m e

-- a bound below, with one above it that is near
pub record Found (m e low : ℕ) : Type 0 where
  pub up : ℕ
  pub order : low < up
  pub near : up ≤ low + 0x3ffc0
  pub upto : up ≤ 2 ^ 59
  pub bounds : Between low up m e

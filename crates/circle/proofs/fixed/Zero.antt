-- Zero among doubles, and what a test says. Assumes nothing.
use mathlib.Core.Path.{◌≡◌}
use mathlib.Core.Bool.{Bool, true, false, true≢false}
use Prim.Native.Nat.{ℕ, suc, ◌*◌, ◌<◌}
use native.Mathlib.Nat.{mul-pos, zero-lt-suc}
use native.Mathlib.Omega.{arith}
use lib.IntN.{ℤ}
use lib.Dec.{T}
use lib.Ieee.{Float, up}
use lib.Ieee.Fits.{up_pos}
use lib.Ieee.Positive.{num}
use lib.Ieee.Scale.{finite}
use Rattle.circle.specs.Within as C

pub apart_from : (a b : ℕ) → a ≡ 0 → 0 < b → a ≡ b → ⊥
apart_from a b p q e = omega arith

pub side : (m : ℕ) (e : ℤ) → 0 < suc m * up e * 1
side m e = mul-pos (mul-pos (zero-lt-suc m) (up_pos e)) (zero-lt-suc 0)

-- a value that is not below zero is `plus` less nothing
pub record Whole (x : Float) : Type 0 where
  pub number : T (finite x)
  pub more : C.plus x ≡ num x
  pub none : C.less x ≡ 0

pub clash : (b : Bool) → b ≡ false → T b → ⊥
clash true e t = true≢false e
clash false e t = t

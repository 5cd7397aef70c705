-- How `bisected_from` goes on and ends. Assumes nothing.
use mathlib.Core.Path.{◌≡◌, refl}
use Prim.Native.Nat.{ℕ, zero, suc, ◌+◌, ◌-◌, ◌≤◌, ◌<◌}
use native.Mathlib.Omega.{arith}
use borrow.Author.Tests.{lt-ltb, le-ltb}
use Rattle.arctangents.specs.Inside.ArctangentValues.{halved, bisected_from}

-- bounds that are far apart are halved
pub turn : (m e left low up : ℕ) → low + 0x3ffc0 < up → up - low ≤ left → bisected_from m e left low up ≡ bisected_from m e (left - 1) (halved low up m e).low (halved low up m e).up
unfolding bisected_from
turn m e zero low up h k = absurd (go low up h k)
  where
    go : (low up : ℕ) → low + 0x3ffc0 < up → up - low ≤ 0 → ⊥
    go low up h k = omega arith
turn m e (suc left) low up h k =
    let less : suc left - 1 ≡ left = omega arith in
    rw (lt-ltb _ _ h, less, bisected_from)

-- the lower of two that are near is the answer
pub last : (m e left low up : ℕ) → up ≤ low + 0x3ffc0 → bisected_from m e left low up ≡ low
unfolding bisected_from
last m e zero low up h = refl
last m e (suc left) low up h = rw (le-ltb _ _ h, bisected_from)

-- The users' third demand of angular pairs: at −x the pair is that at x, bit for bit, but for one change of sign. Statements only: `proofs/Mirror.antt` proves them.
use Rattle.std.specs.Prelude.{ℕ, ◌-◌, ◌%◌, ◌≡◌, true, cond, eqb, Float}
use Rattle.std.specs.Float.Ieee.{lt, neg}
use Rattle.arith.specs.Double.{#0}
use Rattle.expansion.specs.declared.values.Pair.{Pair}
use Rattle.angular.specs.Aswfa.{aswfa}

-- the value negated where n − m, here `offset`, is odd, and the derivative where it is even
abbrev pub mirrored : ℕ → Pair → Pair
mirrored offset p =
    record { value = cond (eqb (offset % 2) 1) (neg p.value) p.value; derivative = cond (eqb (offset % 2) 0) (neg p.derivative) p.derivative }

-- for every x above zero
abbrev pub MirrorLaw : Type 0
MirrorLaw = (m n : ℕ) (c cv kd x : Float) → lt #0 x ≡ true → aswfa m n c cv kd (neg x) ≡ mirrored (n - m) (aswfa m n c cv kd x)

-- and at both zeros the pair is the same
abbrev pub ZeroLaw : Type 0
ZeroLaw = (m n : ℕ) (c cv kd : Float) → aswfa m n c cv kd (neg #0) ≡ aswfa m n c cv kd #0

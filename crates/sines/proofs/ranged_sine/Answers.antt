-- `sines::ranged_sine` meets its contract. Assumes nothing.
use mathlib.Core.Path.{refl, sym, subst}
use Prim.Native.Nat.{ℕ, ◌*◌, ◌^◌, ◌≤◌}
use native.Mathlib.Omega.{arith}
use lib.Dec.{T}
use lib.IntN.{pos, negsuc}
use lib.Ieee.{of_bits}
use lib.Ieee.Positive.{num, den, den_pos}
use Rattle.sines.specs.Inside.SineValues as SineValues
use Rattle.sines.proofs.small.Low.{own_is, narrower}
use Rattle.circle.proofs.fixed.Zero.{clash}
use Rattle.sines.proofs.Range.{tiny_of, whole_of, from_of}
use Rattle.sines.proofs.ranged_sine.Goals as goal

under : (a b : ℕ) → a * 2 ^ 27 ≤ b → a ≤ b
under a b h = omega arith

pub returns-then-x : goal.returns-then-x
unfolding of_bits SineValues.ranged_sine
returns-then-x c =
    let x = c.args.x in
    let t = subst T (sym c.if-x.true) tt in
    record { sine = λ n l. let w = own_is x n (whole_of x c.requires.least t) (tiny_of x c.requires.least t) l in (narrower x _ _ _ (num x) (den x) (den_pos x) (under (num x) (den x) (tiny_of x c.requires.least t)) w, w); tiny = λ k. refl; value = rw c.if-x.true }

pub invariant_of-sine : goal.invariant_of-sine
unfolding of_bits
invariant_of-sine c = record { least = from_of c.args.x 0 (negsuc 26) c.requires.least c.if-x.false; below_one = subst T (sym c.if-x-2.true) tt }

pub returns-then-x-2 : goal.returns-then-x-2
unfolding of_bits SineValues.ranged_sine
returns-then-x-2 c = record { sine = c.sine.ensures.sine; tiny = λ k. absurd (clash _ c.if-x.false k); value = rw (c.if-x.false, c.if-x-2.true, c.sine.ensures.value, c.guess.ensures) }

pub invariant_of-sine-2 : goal.invariant_of-sine-2
unfolding of_bits
invariant_of-sine-2 c = record { least = from_of c.args.x 0 (pos 0) c.requires.least c.if-x-2.false; most = c.requires.most }

pub returns : goal.returns
unfolding of_bits SineValues.ranged_sine
returns c = record { sine = c.sine-2.ensures.sine; tiny = λ k. absurd (clash _ c.if-x.false k); value = rw (c.if-x.false, c.if-x-2.false, c.sine-2.ensures.value) }

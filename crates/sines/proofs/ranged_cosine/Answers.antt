-- `sines::ranged_cosine` meets its contract. Assumes nothing.
use mathlib.Core.Path.{refl, sym, subst}
use lib.Dec.{T}
use lib.IntN.{pos, negsuc}
use lib.Ieee.{of_bits}
use lib.Ieee.Positive.{num, den, den_pos}
use Rattle.sines.specs.Inside.SineValues as SineValues
use Rattle.sines.proofs.small.Low.{one_is}
use Rattle.circle.proofs.fixed.Zero.{clash}
use Rattle.sines.proofs.Range.{tiny_of, from_of}
use Rattle.sines.proofs.ranged_cosine.Goals as goal

pub returns-then-x : goal.returns-then-x
unfolding of_bits SineValues.ranged_cosine
returns-then-x c =
    let x = c.args.x in
    let t = subst T (sym c.if-x.true) tt in
    record { cosine = λ n l. one_is (num x) (den x) n (den_pos x) (tiny_of x c.requires.least t) l; tiny = λ k. refl; value = rw c.if-x.true }

pub invariant_of-cosine : goal.invariant_of-cosine
unfolding of_bits
invariant_of-cosine c = record { least = from_of c.args.x 0 (negsuc 26) c.requires.least c.if-x.false; below_one = subst T (sym c.if-x-2.true) tt }

pub returns-then-x-2 : goal.returns-then-x-2
unfolding of_bits SineValues.ranged_cosine
returns-then-x-2 c = record { cosine = c.cosine.ensures.cosine; tiny = λ k. absurd (clash _ c.if-x.false k); value = rw (c.if-x.false, c.if-x-2.true, c.cosine.ensures.value, c.guess.ensures) }

pub invariant_of-cosine-2 : goal.invariant_of-cosine-2
unfolding of_bits
invariant_of-cosine-2 c = record { least = from_of c.args.x 0 (pos 0) c.requires.least c.if-x-2.false; most = c.requires.most }

pub returns : goal.returns
unfolding of_bits SineValues.ranged_cosine
returns c = record { cosine = c.cosine-2.ensures.cosine; tiny = λ k. absurd (clash _ c.if-x.false k); value = rw (c.if-x.false, c.if-x-2.false, c.cosine-2.ensures.value) }

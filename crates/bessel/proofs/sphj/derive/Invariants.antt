-- `bessel::sphj::derive` meets its contract. The invariant: the derivatives below order k are there. Assumes nothing.
use Prim.Native.Nat.{◌-◌}
use mathlib.Core.Path.{◌≡◌}
use Rattle.bessel.specs.Sphj.{derived}
use Rattle.bessel.proofs.sphj.derive.Given as goal

abbrev pub invariant-loop-k : goal.invariant-loop-k
invariant-loop-k l = l.dj ≡ derived l.x l.sj (l.k - 1) l.initial.dj

-- `bessel::sphj::recur` meets its contract. The invariant: the steps that are left give what all give. Assumes nothing.
use mathlib.Core.Path.{◌≡◌}
use Rattle.bessel.specs.Sphj.{steps_down, recurred}
use Rattle.bessel.proofs.sphj.recur.Given as goal

abbrev pub invariant-loop-k : goal.invariant-loop-k
invariant-loop-k l = steps_down l.x l.nm l.k (record { f0 = l.f0; f1 = l.f1; sj = l.sj }) ≡ recurred l.x l.nm l.from l.initial.sj

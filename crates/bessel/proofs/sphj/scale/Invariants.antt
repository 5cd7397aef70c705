-- `bessel::sphj::scale` meets its contract. The invariant: the places before this one are scaled. Assumes nothing.
use mathlib.Core.Path.{◌≡◌}
use Rattle.bessel.specs.Sphj.{scaled}
use Rattle.bessel.proofs.sphj.scale.Given as goal

abbrev pub invariant-loop-f : goal.invariant-loop-f
invariant-loop-f l = l.f-items ≡ scaled l.cs l.f-index l.initial.f-items

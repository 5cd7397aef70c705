-- `expansion::sdmn::scale` meets its contract. The invariant: what is left to scale gives what the whole gives. Assumes nothing.
use Prim.Native.Nat.{◌-◌}
use mathlib.Core.Path.{◌≡◌}
use Rattle.expansion.specs.Sdmn.{scaled}
use Rattle.expansion.proofs.sdmn.scale.Given as goal

abbrev pub invariant-loop-i : goal.invariant-loop-i
invariant-loop-i l = scaled l.x (l.to - l.i) l.i l.df ≡ scaled l.x (l.to - l.from) l.from l.initial.df

-- `expansion::sdmn::Recurrence::climb` meets its contract. The invariant: what is left of the pass gives what the whole gives. Assumes nothing.
use Prim.Native.Nat.{◌-◌}
use mathlib.Core.Path.{◌≡◌}
use Rattle.expansion.specs.Sdmn.{climbed}
use Rattle.expansion.specs.Inside.Recurrences.{defined}
use Rattle.expansion.proofs.sdmn.Recurrence.climb.Given as goal

abbrev pub invariant-loop-i : goal.invariant-loop-i
invariant-loop-i l = climbed (defined l.self) l.kb (l.kb - l.i) l.i l.f1 l.f2 l.df ≡ climbed (defined l.self) l.kb (l.kb - 1) 1 l.first l.second l.initial.df

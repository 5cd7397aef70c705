-- `expansion::sdmn::Recurrence::descend` meets its contract. The invariant: what is left of the pass gives what the whole gives. Assumes nothing.
use mathlib.Core.Path.{◌≡◌}
use Rattle.expansion.specs.Sdmn as Sdmn
use Rattle.expansion.specs.Sdmn.{descended}
use Rattle.expansion.specs.Inside.Recurrences.{defined}
use Rattle.expansion.proofs.sdmn.Recurrence.descend.Given as goal

abbrev pub invariant-loop-k : goal.invariant-loop-k
invariant-loop-k l = Sdmn.descend (defined l.self) l.nm l.k l.f1 l.f0 l.df ≡ descended (defined l.self) l.nm l.initial.df

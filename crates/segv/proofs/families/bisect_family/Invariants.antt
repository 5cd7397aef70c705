-- `segv::families::bisect_family` meets its contract. The invariant: the places that are left give the whole family. Assumes nothing.
use Prim.Native.Nat.{◌-◌}
use mathlib.Core.Path.{◌≡◌}
use Rattle.segv.specs.Families.{family_from}
use Rattle.segv.proofs.families.bisect_family.Given as goal

abbrev pub invariant-loop-p : goal.invariant-loop-p
invariant-loop-p l =
    family_from l.matrix.d l.matrix.e l.matrix.entries l.limits.places l.limits.allowance (l.limits.places - l.p) l.p l.ends l.out ≡ family_from l.matrix.d l.matrix.e l.matrix.entries l.limits.places l.limits.allowance (l.limits.places - 0) 0 l.initial.ends l.initial.out

-- `segv::ends::Ends::first_below` meets its contract. The invariant: the uppers that are left give the answer. Assumes nothing.
use Prim.Native.Nat.{◌-◌}
use mathlib.Core.Path.{◌≡◌}
use Rattle.segv.specs.Families.{first_below}
use Rattle.segv.proofs.ends.Ends.first_below.Given as goal

abbrev pub invariant-loop-i : goal.invariant-loop-i
invariant-loop-i l = first_below l.self.uppers l.x l.i (l.places - l.i) ≡ first_below l.self.uppers l.x l.from (l.places - l.from)

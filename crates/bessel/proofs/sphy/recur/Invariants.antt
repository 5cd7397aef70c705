-- `bessel::sphy::recur` meets its contract. The invariant: the orders that are left give what all give. Assumes nothing.
use Prim.Native.Nat.{suc, ◌-◌}
use mathlib.Core.Path.{◌≡◌}
use Rattle.bessel.specs.Sphy.{steps_up}
use Rattle.bessel.proofs.sphy.recur.Given as goal

abbrev pub invariant-loop-k : goal.invariant-loop-k
invariant-loop-k l = steps_up l.x l.n (suc l.n - l.k) l.k l.f0 l.f1 l.sy ≡ steps_up l.x l.n (l.n - 1) 2 l.sa l.sb l.initial.sy

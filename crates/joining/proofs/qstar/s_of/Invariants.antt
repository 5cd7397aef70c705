-- `joining::qstar::s_of` meets its contract. The invariant: the sum has the terms below l. Assumes nothing.
use Prim.Native.Nat.{◌-◌}
use mathlib.Core.Path.{◌≡◌}
use Rattle.arith.specs.Double.{at}
use Rattle.joining.specs.Qstar.{s_at}
use Rattle.joining.proofs.qstar.s_of.Given as goal

abbrev pub invariant-loop-l : goal.invariant-loop-l
invariant-loop-l l = l.s ≡ s_at (λ q. at l.sk q) l.ap l.i (l.l - 1)

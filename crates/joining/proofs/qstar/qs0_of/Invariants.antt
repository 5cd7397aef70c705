-- `joining::qstar::qs0_of` meets its contract. The invariant: the sum has the terms below l, and r is the product of the last one. Assumes nothing.
use Prim.Native.Nat.{◌-◌}
use mathlib.Core.Path.{◌≡◌}
use Rattle.joining.specs.Qstar.{product_of, qs0_at}
use Rattle.joining.proofs.qstar.qs0_of.Given as goal

abbrev pub invariant-loop-l : goal.invariant-loop-l
invariant-loop-l l = (l.r ≡ product_of l.ip (l.l - 1)) × (l.qs0 ≡ qs0_at l.ap l.m l.ip (l.l - 1))

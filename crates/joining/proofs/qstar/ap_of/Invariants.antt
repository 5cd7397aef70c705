-- `joining::qstar::ap_of` meets its contract. The invariant: the places below i are there. Assumes nothing.
use Prim.Native.Nat.{◌-◌}
use mathlib.Core.Path.{◌≡◌}
use Rattle.joining.specs.Qstar.{ap_up_to}
use Rattle.joining.proofs.qstar.ap_of.Given as goal

abbrev pub invariant-loop-i : goal.invariant-loop-i
invariant-loop-i l = l.ap ≡ ap_up_to l.ck (l.i - 1)

-- `joining::qstar::sk_of` meets its contract. The invariant: the sum has the terms below k. Assumes nothing.
use mathlib.Core.Path.{refl}
use native.Mathlib.Numerals.{add-one}
use Rattle.joining.specs.Qstar.{sk_at}
use Rattle.joining.proofs.qstar.sk_of.Goals as goal

pub loop-k-init : goal.loop-k-init
unfolding sk_at
loop-k-init c = refl

pub loop-k-preserved : goal.loop-k-preserved
unfolding sk_at
loop-k-preserved c = let l = c.loop-k in rw (add-one l.k, l.invariant)

-- `joining::qstar::sk_of` meets its contract. The invariant: the sum has the terms below k. Assumes nothing.
use mathlib.Core.Path.{◌≡◌}
use Rattle.joining.specs.Qstar.{sk_at}
use Rattle.joining.proofs.qstar.sk_of.Given as goal

abbrev pub invariant-loop-k : goal.invariant-loop-k
invariant-loop-k l = l.sk ≡ sk_at l.ck l.l l.k

-- `joining::qstar::inner_sums` meets its contract. The invariant: the sums below l are there. Assumes nothing.
use mathlib.Core.Path.{◌≡◌}
use lib.ListN.{length}
use Rattle.joining.specs.Qstar.{sk_of}
use Rattle.joining.proofs.Laws.{Table}
use Rattle.joining.proofs.qstar.inner_sums.Given as goal

abbrev pub invariant-loop-l : goal.invariant-loop-l
invariant-loop-l l = (length l.sk ≡ 200) × Table (λ q. sk_of l.ck q) l.l l.sk

-- The loop of `circle::circle`: what is known of the cosine and the sine after so many doublings.
use mathlib.Core.Path.{◌≡◌}
use Rattle.circle.specs.Inside.CircleValues as CircleValues
use Rattle.circle.proofs.Follows.{Follows}
use Rattle.circle.proofs.circle.Given as goal

abbrev pub invariant-loop : goal.invariant-loop
invariant-loop l = Follows l.y l.counter l.p.cn l.p.c l.p.sn l.p.s × (CircleValues.circle l.y l.counter ≡ l.p)

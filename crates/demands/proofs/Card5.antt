-- Each answer of the table is as the definitions give it, by computation, one declaration for each. Assumes nothing.
use mathlib.Core.Path.{◌≡◌, refl}
use mathlib.Core.List.{List, ◌∷◌, map}
use Rattle.arith.specs.Double.{bits}
use Rattle.requests.specs.Answers.{Answer}
use Rattle.modes.specs.Radial.{radial_of}
use Rattle.demands.specs.Card5.{Row, by_rmn2so, at_limit, past_limit, remembered, both_off_disc}
use Rattle.demands.proofs.Computed.{computed}

abbrev given : Row → Answer
given r = radial_of r.0 (bits r.1) (bits r.2)

by_rmn2so_lem : given by_rmn2so ≡ by_rmn2so.3
unfolding computed
by_rmn2so_lem = refl

at_limit_lem : given at_limit ≡ at_limit.3
unfolding computed
at_limit_lem = refl

past_limit_lem : given past_limit ≡ past_limit.3
unfolding computed
past_limit_lem = refl

remembered_sum : given remembered ≡ remembered.3
unfolding computed
remembered_sum = refl

cons : {a b : Answer} {l k : List Answer} → a ≡ b → l ≡ k → ◌≡◌ {A = List Answer} (a ∷ l) (b ∷ k)
cons h t = rw (h, t)

pub both_off_disc_right : map given both_off_disc ≡ map (λ (r : Row). r.3) both_off_disc
both_off_disc_right = cons by_rmn2so_lem (cons at_limit_lem (cons past_limit_lem (cons remembered_sum refl)))

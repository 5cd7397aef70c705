-- Each line of the table is as the definitions give it, by computation. Assumes nothing.
use mathlib.Core.Path.{◌≡◌, refl}
use mathlib.Core.List.{map}
use Rattle.demands.specs.Edges.{Edge, edges, of_answer, answer_to, answered}
use Rattle.demands.proofs.Computed.{computed}

pub edges_right : map answered edges ≡ map (λ (e : Edge). (e.refusal, e.values)) edges
unfolding computed edges of_answer answer_to
edges_right = refl

-- Operation 8 is refused where operation 5 is, and else answers its first kind; and each line of the table is as the definitions give it, by computation. Assumes nothing.
use mathlib.Core.Path.{◌≡◌, refl}
use mathlib.Core.Bool.{Bool, true, false}
use mathlib.Core.List.{List, map}
use lib.Dec.{eqb}
use lib.Ieee.{Float}
use Prim.Native.Nat.{ℕ}
use Rattle.arith.specs.Double.{bits}
use Rattle.std.specs.Prelude.{Option, Some, None}
use Rattle.expansion.specs.declared.values.Pair as values
use Rattle.radial_sums.specs.Rmn1.{rmn1}
use Rattle.radial.specs.Rswfo.{coefficients, with_second, rswfo, first_kind}
use Rattle.requests.specs.Answers.{Answer}
use Rattle.requests.specs.declared.checking.Mode.{Mode}
use Rattle.modes.specs.Radial.{radial_refusal, quadruple_or_refusal, radial_of}
use Rattle.modes.specs.FirstKind.{pair_or_refusal, first_of}
use Rattle.demands.specs.Card2.{first_pair, FirstKindOfBoth, RadialEdge, radial_edges, off_disc}
use Rattle.demands.proofs.Computed.{computed}

-- the first of both kinds, found or not
of_both : (df : List Float) (m n : ℕ) (c cv x : Float) (f : Option values.Pair) → pair_or_refusal f ≡ first_pair (quadruple_or_refusal (with_second df m n c cv x f))
unfolding pair_or_refusal quadruple_or_refusal with_second first_pair
of_both df m n c cv x (Some p) = refl
of_both df m n c cv x None = refl

pub first_kind_of_both : FirstKindOfBoth
unfolding first_of radial_of first_pair first_kind rswfo
first_kind_of_both mode cv x = go (eqb (radial_refusal mode cv x) 0) refl
  where
    go : (t : Bool) → eqb (radial_refusal mode cv x) 0 ≡ t → first_of mode cv x ≡ first_pair (radial_of mode cv x)
    go true h = rw h (of_both _ mode.m mode.n mode.c cv x (rmn1 (coefficients mode.m mode.n mode.c cv) mode.m mode.n mode.c x))
    go false h = rw h

pub radial_edges_right : map (λ (e : RadialEdge). radial_refusal e.mode e.cv e.x) radial_edges ≡ map (λ (e : RadialEdge). e.refusal) radial_edges
unfolding computed radial_edges
radial_edges_right = refl

pub off_disc_right : map (λ (r : Mode × ℕ × ℕ × Answer). first_of r.0 (bits r.1) (bits r.2)) off_disc ≡ map (λ (r : Mode × ℕ × ℕ × Answer). r.3) off_disc
unfolding computed
off_disc_right = refl

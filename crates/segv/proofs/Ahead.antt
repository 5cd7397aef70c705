-- Counts that are known before their steps: what they are, and that a step leaves those of the half that it takes. Assumes nothing.
use Prim.Native.Nat.{ℕ, ◌-◌, ◌<◌, ◌≤◌}
use mathlib.Core.Path.{◌≡◌, refl, ◌∙◌}
use mathlib.Core.Bool.{Bool, true, false, cond}
use native.Mathlib.Omega.{arith}
use lib.Dec.{ltb}
use lib.Ieee.{Float}
use Rattle.arith.specs.Double.{◌⊕◌, ◌⊘◌, #2}
use Rattle.sturm.specs.declared.pivots.Count.{Count}
use Rattle.sturm.specs.declared.pivots.Counts.{Counts}
use Rattle.sturm.specs.declared.pivots.Seven.{Seven}
use Rattle.sturm.specs.Pivots.{count}
use Rattle.sturm.specs.Inside.SevenShifts.{counts_at, count_x}
use Rattle.segv.specs.declared.bisection.Bracket.{Bracket}
use Rattle.segv.specs.Bisection.{with_midpoint, tighten}
use Rattle.segv.specs.Inside.Ahead.{midpoints_ahead, half_of, counts_after}

abbrev mid : Float → Float → Float
mid lower upper = (upper ⊕ lower) ⊘ #2

-- for so many steps from the bracket with these ends on, the counts are what np gives at the midpoints
pub record Known (np : Float → Count) (known : ℕ) (lower upper : Float) (k : Counts) : Type 0 where
  pub few : known ≤ 3
  pub one : 0 < known → count_x k ≡ np (mid lower upper)
  pub two : 1 < known
      → (count k.negative.l k.substituted.l ≡ np (mid lower (mid lower upper)))
      × (count k.negative.h k.substituted.h ≡ np (mid (mid lower upper) upper))
  pub three : 2 < known
      → (count k.negative.ll k.substituted.ll ≡ np (mid lower (mid lower (mid lower upper))))
      × (count k.negative.lh k.substituted.lh ≡ np (mid (mid lower (mid lower upper)) (mid lower upper)))
      × (count k.negative.hl k.substituted.hl ≡ np (mid (mid lower upper) (mid (mid lower upper) upper)))
      × (count k.negative.hh k.substituted.hh ≡ np (mid (mid (mid lower upper) upper) upper))

module _ (np : Float → Count) where
  pub none_known : (lower upper : Float) (k : Counts) → Known np 0 lower upper k
  none_known lower upper k = record { few = omega arith; one = λ p. absurd (omega arith); two = λ p. absurd (omega arith); three = λ p. absurd (omega arith) }

  pub three_known : (r h : Bracket) (k : Counts) → h ≡ with_midpoint r → k ≡ counts_at np (midpoints_ahead h) → Known np 3 r.lower r.upper k
  unfolding with_midpoint
  three_known r h k hh hk = rw (hk, hh) (record { few = omega arith; one = λ p. refl; two = λ p. (refl, refl); three = λ p. (refl, refl, refl, refl) })

  module _ (known : ℕ) (r h : Bracket) (k : Counts) (hh : h ≡ with_midpoint r) (c : Known np known r.lower r.upper k) where
    pub count_known : (j : Count) → j ≡ count_x k → 0 < known → j ≡ np h.value
    unfolding with_midpoint
    count_known j hj p = rw hh (hj ∙ c.one p)

    -- a step takes a half, and the counts of that half are known for a step less
    pub known_after : (place : ℕ) (j : Count) (t : Bracket) (k' : Counts) → j ≡ count_x k → t ≡ tighten j place h → k' ≡ counts_after place k → Known np (known - 1) t.lower t.upper k'
    unfolding tighten with_midpoint
    known_after place j t k' hj ht hk = rw (ht, hj, hk, hh) (go (ltb k.negative.x place))
      where
        n : Seven ℕ
        n = k.negative

        z : Seven Bool
        z = k.substituted

        go : (b : Bool)
            → Known np (known - 1) (cond b (mid r.lower r.upper) r.lower) (cond b r.upper (mid r.lower r.upper))
            (record { negative = half_of b 0 n; substituted = half_of b false z })
        go true =
            record {
              few = let f = c.few in omega arith;
              one = λ p. (c.two (omega arith)).1;
              two = λ p. let q = c.three (omega arith) in (q.2, q.3);
              three = λ p. let f = c.few in absurd (omega arith);
            }
        go false =
            record {
              few = let f = c.few in omega arith;
              one = λ p. (c.two (omega arith)).0;
              two = λ p. let q = c.three (omega arith) in (q.0, q.1);
              three = λ p. let f = c.few in absurd (omega arith);
            }

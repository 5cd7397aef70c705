-- `bessel::sphj::scale` meets its contract. The invariant: the places before this one are scaled. Assumes nothing.
use Prim.Native.Nat.{ℕ, zero, suc, ◌≤◌}
use mathlib.Core.Path.{◌≡◌, refl, sym, ◌∙◌}
use mathlib.Core.List.{List, ◌++◌}
use native.Mathlib.Omega.{arith}
use native.Mathlib.Numerals.{add-one}
use lib.Ieee.{Float}
use lib.ListN.{length, take, drop}
use Rattle.std.proofs.lemmas.List.{length-set, set-append_left, get_or_append_left, take-append-drop, length-take-le}
use Rattle.bessel.specs.Sphj.{scaled}
use Rattle.bessel.proofs.sphj.scale.Goals as goal

length-scaled : (cs : Float) (k : ℕ) (xs : List Float) → length (scaled cs k xs) ≡ length xs
unfolding scaled
length-scaled cs zero xs = refl
length-scaled cs (suc k) xs = length-set _ _ _ ∙ length-scaled cs k xs

-- scaling the first places of a front scales those of the whole
in_front : (cs : Float) (k : ℕ) (xs ys : List Float) → k ≤ length xs → scaled cs k xs ++ ys ≡ scaled cs k (xs ++ ys)
unfolding scaled
in_front cs zero xs ys h = refl
in_front cs (suc k) xs ys h =
    let l : suc k ≤ length (scaled cs k xs) = rw (length-scaled cs k xs) h in
    rw (← in_front cs k xs ys (omega arith), get_or_append_left (scaled cs k xs) ys _ k l) (sym (set-append_left (scaled cs k xs) ys k _ l))

pub loop-f-init : goal.loop-f-init
unfolding scaled
loop-f-init c = refl

pub loop-f-preserved : goal.loop-f-preserved
unfolding scaled
loop-f-preserved c = rw (add-one c.loop-f.f-index, c.loop-f.invariant)

whole : (cs : Float) (k n : ℕ) (xs ys : List Float) → n ≤ length xs → k ≡ length (take n xs) → ys ≡ scaled cs k (take n xs) → ys ++ drop n xs ≡ scaled cs n xs
whole cs k n xs ys h e p =
    let t = length-take-le n xs h in
    rw (p, e, t) (in_front cs n (take n xs) (drop n xs) (omega (arith, t)) ∙ rw (take-append-drop n xs))

pub returns : goal.returns
returns c = whole _ _ _ _ _ (rw c.told-sj c.requires) (omega arith) c.loop-f.invariant

-- How the upward recurrence and `sphy` unfold, in the form in which the proofs of the code meet it. Assumes nothing.
use Prim.Native.Nat.{ℕ, zero, suc, ◌-◌, ◌≤◌}
use mathlib.Core.Path.{◌≡◌, refl, sym, ap, ◌∙◌}
use mathlib.Core.Bool.{true, false}
use mathlib.Core.List.{List, [], ◌∷◌, ◌++◌}
use native.Mathlib.Omega.{arith}
use lib.ListN.{set, length, take, drop, replicate}
use Rattle.std.proofs.lemmas.List.{length-take-le}
use lib.Ieee.{Float, neg, le}
use Rattle.arith.specs.Double.{◌⊖◌, ◌⊗◌, ◌⊘◌, dbl, #1, #2, #1e300}
use Rattle.arith.specs.Choice.{abs}
use Rattle.bessel.specs.declared.sphj.Lowest.{Lowest}
use Rattle.bessel.specs.Sphj.{blank, derived}
use Rattle.bessel.specs.Sphy.{near_zero, filled, lowest, Recurrence, steps_up, recurred, sy, dy, highest}

-- ---- a step of the recurrence, to order k; a is the size of its function
module _ (x : Float) (n left k : ℕ) (f0 f1 : Float) (s : List Float) where
  abbrev next : Float
  next = (#2 ⊗ dbl k ⊖ #1) ⊗ f1 ⊘ x ⊖ f0

  pub ends : (a : Float) → a ≡ abs next → le #1e300 a ≡ true → record { sy = set s k next; nm = k - 1; whole = false } ≡ steps_up x n (suc left) k f0 f1 s
  unfolding steps_up
  ends a e h = sym (rw (rw e at h, steps_up))

  pub goes_on : (a : Float) → a ≡ abs next → le #1e300 a ≡ false → steps_up x n left (suc k) f1 next (set s k next) ≡ steps_up x n (suc left) k f0 f1 s
  unfolding steps_up
  goes_on a e h = sym (rw (rw e at h, steps_up))

-- ---- the first places, each v
filled_cons : (v x : Float) (k : ℕ) (xs : List Float) → filled v (suc k) (x ∷ xs) ≡ v ∷ filled v k xs
unfolding filled
filled_cons v x zero xs = refl
filled_cons v x (suc k) xs = rw (filled_cons v x k xs)

filled_front : (v : Float) (k : ℕ) (xs : List Float) → k ≤ length xs → replicate k v ++ drop k xs ≡ filled v k xs
unfolding filled
filled_front v zero xs h = refl
filled_front v (suc k) [] h = absurd (omega arith)
filled_front v (suc k) (x ∷ xs) h = ap (λ r. v ∷ r) (filled_front v k xs (omega arith)) ∙ sym (filled_cons v x k xs)

pub front_filled : (v : Float) (k : ℕ) (xs ys : List Float) → k ≤ length xs → ys ≡ replicate (length (take k xs)) v → ys ++ drop k xs ≡ filled v k xs
front_filled v k xs ys h e = rw (e, length-take-le k xs h) (filled_front v k xs h)

-- ---- the highest order, the functions and their derivatives, in places b and b' that were zero
module _ (x : Float) (n : ℕ) (b b' : List Float) (e : b ≡ blank) (e' : b' ≡ blank) where
  pub infinite : near_zero x ≡ true → (k : ℕ) (s d : List Float) → k ≡ suc n → s ≡ filled (neg #1e300) k b → d ≡ filled #1e300 k b' → (n ≡ highest x n) × ((s ≡ sy x n) × (d ≡ dy x n))
  unfolding highest sy dy
  infinite h k s d hk hs hd = (sym (rw h), (hs ∙ rw (hk, e) (sym (rw h)), hd ∙ rw (hk, e') (sym (rw h))))

  module _ (h : near_zero x ≡ false) (l : Lowest) (r : Recurrence) (hl : l ≡ lowest x) (hr : r ≡ steps_up x n (n - 1) 2 l.sa l.sb (set (set b 0 l.sa) 1 l.sb)) where
    is_recurred : r ≡ recurred x n
    unfolding recurred
    is_recurred = hr ∙ rw (hl, e)

    pub all_reached : r.whole ≡ true → (d : List Float) → d ≡ derived x r.sy (n - 1) (set b' 0 l.da) → (r.nm ≡ highest x n) × ((r.sy ≡ sy x n) × (d ≡ dy x n))
    unfolding highest sy dy
    all_reached w d hd = (rw is_recurred (sym (rw h)), (rw is_recurred (sym (rw h)), hd ∙ rw (is_recurred, hl, e') (sym (rw (h, rw is_recurred at w)))))

    pub cut_short : r.whole ≡ false → (r.nm ≡ highest x n) × ((r.sy ≡ sy x n) × (set b' 0 l.da ≡ dy x n))
    unfolding highest sy dy
    cut_short w = (rw is_recurred (sym (rw h)), (rw is_recurred (sym (rw h)), rw (hl, e') (sym (rw (h, rw is_recurred at w)))))

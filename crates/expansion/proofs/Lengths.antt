-- The coefficients of `sdmn` fill 200 places. Assumes nothing.
use Prim.Native.Nat.{ℕ, zero, suc, ◌+◌, ◌-◌, ◌/◌}
use mathlib.Core.Path.{◌≡◌, refl, ◌∙◌}
use mathlib.Core.Bool.{Bool, true, false, cond}
use mathlib.Core.List.{List}
use lib.Dec.{eqb, ltb}
use lib.Ieee.{Float, lt}
use lib.ListN.{length, set, length-set, length-replicate}
use Rattle.arith.specs.Double.{◌⊗◌, at, #0, #1, #1e-10, #1e-100}
use Rattle.expansion.specs.Terms.{terms_of}
use Rattle.expansion.specs.Sums.{blank}
use Rattle.expansion.specs.Sdmn.{Recurrence, below, above, second, exceeds, too_large, reduced, reduced_places, scaled, stored_below, descend, descended, Downward, downward, climbed, ascended, upward, norm_of, normalised, expanded, recurrence_of, sdmn}

-- of either of two lists
either : (t : Bool) (n : ℕ) (a b : List Float) → length a ≡ n → length b ≡ n → length (cond t a b) ≡ n
either true n a b p q = p
either false n a b p q = q

scaled_length : (x : Float) (left i : ℕ) (df : List Float) → length (scaled x left i df) ≡ length df
unfolding scaled
scaled_length x zero i df = refl
scaled_length x (suc left) i df = scaled_length x left (suc i) (set df i (at df i ⊗ x)) ∙ length-set df i (at df i ⊗ x)

reduced_length : (f : Float) (left i : ℕ) (df : List Float) → length (reduced_places f left i df) ≡ length df
unfolding reduced_places
reduced_length f left i df = either (too_large f) (length df) (scaled #1e-100 left i df) df (scaled_length #1e-100 left i df) refl

descend_length : (r : Recurrence) (nm k : ℕ) (f1 f0 : Float) (df : List Float) → length (descend r nm k f1 f0 df).df ≡ length df
unfolding descend
descend_length r nm zero f1 f0 df = refl
descend_length r nm (suc k) f1 f0 df = go (exceeds f (at df (suc k))) (descend_length r nm k (reduced f f0) (reduced f f) (reduced_places f (nm - k) k (set df k f)))
  where
    f : Float
    f = below r (suc k) f1 f0

    go : (t : Bool) → length (descend r nm k (reduced f f0) (reduced f f) (reduced_places f (nm - k) k (set df k f))).df ≡ length (reduced_places f (nm - k) k (set df k f))
        → let a : Downward = elim t [ true ↦ descend r nm k (reduced f f0) (reduced f f) (reduced_places f (nm - k) k (set df k f)) | false ↦ downward (suc k) (at df (suc k)) df ] in
        length a.df ≡ length df
    go true h = h ∙ reduced_length f (nm - k) k (set df k f) ∙ length-set df k f
    go false h = refl

climbed_length : (r : Recurrence) (kb left i : ℕ) (f1 f2 : Float) (df : List Float) → length (climbed r kb left i f1 f2 df).df ≡ length df
unfolding climbed stored_below
climbed_length r kb zero i f1 f2 df = refl
climbed_length r kb (suc left) i f1 f2 df =
    let f = above r i f1 f2 in
    let ys = cond (ltb (i + 1) kb) (set df (i + 1) f) df in
    climbed_length r kb left (suc i) (reduced f f2) (reduced f f) (reduced_places f (i + 2) 0 ys)
    ∙ reduced_length f (i + 2) 0 ys
    ∙ either (ltb (i + 1) kb) (length df) (set df (i + 1) f) df (length-set df (i + 1) f) refl

ascended_length : (r : Recurrence) (kb : ℕ) (df : List Float) → length (ascended r kb df).df ≡ length df
unfolding ascended
ascended_length r kb df = go (eqb kb 0) (eqb kb 1) (eqb kb 2)
  where
    f2 : Float
    f2 = second r #1e-100

    two : length (set (set df 0 #1e-100) 1 f2) ≡ length df
    two = length-set (set df 0 #1e-100) 1 f2 ∙ length-set df 0 #1e-100

    go : (a b c : Bool) → length (cond a (upward #1 df) (cond b (upward f2 (set df 0 #1e-100)) (cond c (upward (above r 1 #1e-100 f2) (set (set df 0 #1e-100) 1 f2)) (climbed r kb (kb - 1) 1 #1e-100 f2 (set (set df 0 #1e-100) 1 f2))))).df ≡ length df
    go true b c = refl
    go false true c = length-set df 0 #1e-100
    go false false true = two
    go false false false = climbed_length r kb (kb - 1) 1 #1e-100 f2 (set (set df 0 #1e-100) 1 f2) ∙ two

expanded_length : (r : Recurrence) (n nm : ℕ) → length (expanded r n nm) ≡ 200
unfolding expanded normalised blank
expanded_length r n nm =
    let down = descended r nm blank in
    let up = ascended r down.kb down.df in
    let s0 = norm_of r n nm down up in
    scaled_length s0 (nm - down.kb) down.kb _ ∙ scaled_length _ down.kb 0 up.df ∙ ascended_length r down.kb down.df ∙ descend_length r nm nm #0 #1e-100 blank ∙ length-replicate 200 #0

pub sdmn_length : (m n : ℕ) (c cv kd : Float) → length (sdmn m n c cv kd) ≡ 200
unfolding sdmn blank
sdmn_length m n c cv kd =
    either (lt c #1e-10) 200 (set blank ((n - m) / 2) #1) (expanded (recurrence_of m n c cv kd) n (terms_of (n - m) c)) (length-set blank ((n - m) / 2) #1 ∙ length-replicate 200 #0)
    (expanded_length (recurrence_of m n c cv kd) n (terms_of (n - m) c))

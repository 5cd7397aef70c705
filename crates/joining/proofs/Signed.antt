-- The signed index k − m + 1, as the definition and the machine have it. Assumes nothing.
use Prim.Native.Nat.{ℕ, zero, suc, ◌+◌, ◌-◌, ◌≤◌, ◌<◌}
use mathlib.Core.Path.{◌≡◌, refl, sym, ap, ◌∙◌}
use mathlib.Core.Logic.{◌⊎◌, inl, inr, ⊎_elim}
use mathlib.Core.Bool.{Bool, true, false}
use native.Mathlib.Omega.{arith}
use native.Mathlib.Nat.{add-zero, sub-zero}
use borrow.Author.Tests.{ltb-true, ltb-false, lt-ltb, le-ltb}
use lib.Dec.{ltb}
use lib.IntN.{ℤ, pos, negsuc, nat_abs, ◌+ℤ◌, ◌-ℤ◌}
use lib.Signed.{mag, lt_z}
use mir.Syntax.{w32}
use mir.Val.{to_z, of_z, SFits}
use mir.Facts.{to_z-of_z, to_z_pos}
use Rattle.joining.specs.Cbk.{first_index}

either_way : (k m : ℕ) → (m ≤ k) ⊎ (k < m)
either_way k m = go (ltb k m) refl
  where
    go : (t : Bool) → ltb k m ≡ t → (m ≤ k) ⊎ (k < m)
    go true e = inr (ltb-true k m e)
    go false e = inl (ltb-false k m e)

difference_up : (k m : ℕ) → m ≤ k → pos k -ℤ pos m ≡ pos (k - m)
difference_up k zero h = ap pos (add-zero k ∙ sym (sub-zero k))
difference_up k (suc m) h = rw (le-ltb k (suc m) h)

difference_down : (k m : ℕ) → k < m → pos k -ℤ pos m ≡ negsuc (m - suc k)
difference_down k zero h = absurd (omega arith)
difference_down k (suc m) h = rw (lt-ltb k (suc m) h)

-- the index is k + 1 − m, or below zero
index_up : (k m : ℕ) → m ≤ k + 1 → pos k -ℤ pos m +ℤ pos 1 ≡ pos (k + 1 - m)
index_up k m h = ⊎_elim up down (either_way k m)
  where
    up : m ≤ k → pos k -ℤ pos m +ℤ pos 1 ≡ pos (k + 1 - m)
    up l = rw (difference_up k m l) (ap pos (omega arith))

    down : k < m → pos k -ℤ pos m +ℤ pos 1 ≡ pos (k + 1 - m)
    down l =
        let e : m - suc k ≡ 0 = omega arith in
        let f : k + 1 - m ≡ 0 = omega arith in
        rw (difference_down k m l, e, f)

index_down : (k m : ℕ) → k + 1 < m → pos k -ℤ pos m +ℤ pos 1 ≡ negsuc (m - suc (k + 1))
index_down k m h =
    let l : 1 < suc (m - suc k) = omega arith in
    rw (difference_down k m (omega arith), lt-ltb 1 (suc (m - suc k)) l) (ap negsuc (omega arith))

pub first_is : (m k : ℕ) → first_index m k ≡ k + 1 - m
unfolding first_index
first_is m k = ⊎_elim up down (either_way (k + 1) m)
  where
    up : m ≤ k + 1 → first_index m k ≡ k + 1 - m
    up l = rw (index_up k m l, le-ltb (k + 1 - m) 0 (omega arith))

    down : k + 1 < m → first_index m k ≡ k + 1 - m
    down l = let e : k + 1 - m ≡ 0 = omega arith in rw (index_down k m l, e)

-- ---- as the machine has it
module _ (k m : ℕ) (hk : k < 1000) (hm : m < 1000) where
  reads : to_z w32 k -ℤ to_z w32 m ≡ pos k -ℤ pos m
  reads = rw (to_z_pos w32 {n = k} (omega arith), to_z_pos w32 {n = m} (omega arith))

  small : mag (pos k -ℤ pos m) < 1000
  small = ⊎_elim (λ l. rw (difference_up k m l) (omega arith)) (λ l. rw (difference_down k m l) (omega arith)) (either_way k m)

  pub difference_fits : SFits w32 (to_z w32 k -ℤ to_z w32 m)
  difference_fits = record { sfits = rw reads (omega (arith, small)) }

  pub machine_difference : to_z w32 (of_z w32 (to_z w32 k -ℤ to_z w32 m)) ≡ pos k -ℤ pos m
  machine_difference = to_z-of_z {w = w32} difference_fits ∙ reads

  pub index_fits : SFits w32 (pos k -ℤ pos m +ℤ pos 1)
  index_fits = record { sfits = ⊎_elim (λ l. rw (index_up k m l) (omega arith)) (λ l. rw (index_down k m l) (omega arith)) (either_way (k + 1) m) }

  pub machine_index : to_z w32 (of_z w32 (to_z w32 (of_z w32 (to_z w32 k -ℤ to_z w32 m)) +ℤ pos 1)) ≡ pos k -ℤ pos m +ℤ pos 1
  machine_index = rw machine_difference (to_z-of_z {w = w32} index_fits)

  -- ---- and its test
  module _ (z : ℤ) (e : z ≡ pos k -ℤ pos m +ℤ pos 1) where
    pub index_below : lt_z z (pos 0) ≡ true → 0 ≡ first_index m k
    unfolding first_index
    index_below h = rw (rw e at h)

    pub index_at : lt_z z (pos 0) ≡ false → nat_abs z ≡ first_index m k
    unfolding first_index
    index_at h = rw (rw e at h) (ap nat_abs e)

-- The Gershgorin bounds of a matrix are finite where cs is at most 2 ^ 120 in size: no entry's divisor is zero, and no root is of a number below zero. Assumes nothing.
use Prim.Native.Nat.{ℕ, zero, suc, ◌+◌, ◌-◌, ◌*◌, ◌^◌, ◌≤◌, ◌<◌}
use native.Mathlib.Nat.{mul-pos, mul-le-mul, mul-add}
use native.Mathlib.Omega.{arith}
use mathlib.Core.Path.{◌≡◌, sym, subst}
use mathlib.Core.Bool.{false}
use mathlib.Core.List.{List}
use borrow.Author.Tests.{ltb-false}
use lib.Dec.{ltb}
use lib.ListN.{get_or-replicate}
use lib.Ieee.{Float, nan, binary64, round, add, sub, mul, div, of_int, of_bits, fits}
use lib.Ieee.Fits.{mul-fits}
use Rattle.arith.specs.Double.{◌⊕◌, ◌⊖◌, ◌⊗◌, ◌⊘◌, dbl, at, #0, #1, #2, #3}
use Rattle.arith.specs.Choice.{abs}
use Rattle.arith.specs.Root.{sqrt}
use Rattle.arith.proofs.Flags.{cases}
use Rattle.arith.proofs.Laws.{one, two, three, dbl_sum, dbl_difference, dbl_product, dbl_quotient, lesser_one, greater_one}
use Rattle.arith.proofs.Unsigned.{Unsigned, round_signed, multiples_unsigned}
use Rattle.arith.proofs.Bounded.{Bounded, zero_bounded, bounded_more, bounded_abs, round_bounded, dbl_bounded, mul_bounded, add_bounded, sub_bounded, root_bounded}
use Rattle.factors.specs.Factors.{factor_a}
use Rattle.factors.proofs.Quotient.{once_rounded}
use Rattle.sturm.specs.declared.gershgorin_bounds.Bounds.{Bounds}
use Rattle.sturm.specs.Entries.{entry_a, entry_d, entry_g, entry_e, blank_entries, first_entries, diagonal, off_diagonal}
use Rattle.sturm.specs.Bounds.{widen, bounds_from, bounds_of}
use Rattle.sturm.proofs.Stored.{stored}

-- ---- the parts of the entries before cs

-- at most 2 ^ 24, and not below zero
abbrev Small : Float → Type 0
Small x = Bounded 24 x × Unsigned x

few : (a b : ℕ) → a ≤ 2 ^ 12 → b ≤ 2 ^ 12 → a * b ≤ 2 ^ 24
few a b h k = let l = mul-le-mul h k in omega arith

rounded_small : (a b : ℕ) → a ≤ 2 ^ 24 → 0 < b → Small (round binary64 false a b)
rounded_small a b h k = (round_bounded 24 false a b (omega arith) k (omega arith), round_signed binary64 false a b)

quotient_small : (a b : ℕ) → a ≤ 2 ^ 24 → b ≤ 2 ^ 53 → 0 < b → Small (dbl a ⊘ dbl b)
quotient_small a b h k l = rw (dbl_quotient a b (omega arith) k l) (rounded_small a b h l)

small_a : (m k : ℕ) → m ≤ 199 → k ≤ 600 → Small (factor_a m k)
small_a m k h l = rw (once_rounded m k (omega arith)) (rounded_small _ _ (few (2 * m + k + 2) (2 * m + k + 1) (omega arith) (omega arith)) (mul-pos {m = 2 * (m + k) + 3} (omega arith) (omega arith)))

small_g : (k t : ℕ) → 2 ≤ k → k ≤ 600 → 2 * k ≤ t → t ≤ 1600 → Small (dbl k ⊗ (dbl k ⊖ #1) ⊘ ((dbl t ⊖ #3) ⊗ (dbl t ⊖ #1)))
small_g k t h l u v =
    let f = few (t - 3) (t - 1) (omega arith) (omega arith) in
    rw (
      one,
      three,
      dbl_difference k 1 (omega arith) (omega arith),
      dbl_product k (k - 1) (omega arith) (omega arith),
      dbl_difference t 3 (omega arith) (omega arith),
      dbl_difference t 1 (omega arith) (omega arith),
      dbl_product (t - 3) (t - 1) (omega arith) (omega arith),
    ) (quotient_small (k * (k - 1)) ((t - 3) * (t - 1)) (few k (k - 1) (omega arith) (omega arith)) (omega arith) (mul-pos {m = t - 3} (omega arith) (omega arith)))

-- 2m² is below 2n(n+1), for an n above 0 that is m or more
less_square : (m n : ℕ) → m ≤ n → 0 < n → 2 * m * m < 2 * n * (n + 1)
less_square m n h k = below (2 * m * m) (2 * n * n) (2 * n * (n + 1)) (mul-le-mul {n₁ = 2 * m} {n₂ = 2 * n} (omega arith) h) (mul-add (2 * n) n 1)
  where
    below : (a b c : ℕ) → a ≤ b → c ≡ b + 2 * n * 1 → a < c
    below a b c p q = omega arith

-- the quotient in d, with n for m + k
abbrev quotient_d : ℕ → ℕ → Float
quotient_d n m = (#2 ⊗ dbl n ⊗ dbl (n + 1) ⊖ #2 ⊗ dbl m ⊗ dbl m ⊖ #1) ⊘ ((dbl (2 * n) ⊖ #1) ⊗ (dbl (2 * n) ⊕ #3))

-- at 0 both numbers of the quotient are below zero
quotient_d_zero : Bounded 24 (quotient_d 0 0)
unfolding of_bits of_int add sub mul div
quotient_d_zero = omega arith

quotient_d_above : (n m : ℕ) → m ≤ n → 0 < n → n ≤ 800 → Bounded 24 (quotient_d n m)
quotient_d_above n m h k l =
    let a = 2 * n * (n + 1) in
    let b = 2 * m * m in
    let p = few (2 * n) (n + 1) (omega arith) (omega arith) in
    let q = less_square m n h k in
    let f = few (2 * n - 1) (2 * n + 3) (omega arith) (omega arith) in
    rw (
      one,
      two,
      three,
      dbl_product 2 n (omega arith) (omega arith),
      dbl_product (2 * n) (n + 1) (omega arith) (omega arith),
      dbl_product 2 m (omega arith) (omega arith),
      dbl_product (2 * m) m (omega arith) (omega arith),
      dbl_difference a b (omega arith) (omega arith),
      dbl_difference (a - b) 1 (omega arith) (omega arith),
      dbl_difference (2 * n) 1 (omega arith) (omega arith),
      dbl_sum (2 * n) 3 (omega arith) (omega arith),
      dbl_product (2 * n - 1) (2 * n + 3) (omega arith) (omega arith),
    ) (quotient_small (a - b - 1) ((2 * n - 1) * (2 * n + 3)) (omega arith) (omega arith) (mul-pos {m = 2 * n - 1} (omega arith) (omega arith))).0

quotient_d_bounded : (n m : ℕ) → m ≤ n → n ≤ 800 → Bounded 24 (quotient_d n m)
quotient_d_bounded zero zero h l = quotient_d_zero
quotient_d_bounded zero (suc m) h l = absurd (omega arith)
quotient_d_bounded (suc n) m h l = quotient_d_above (suc n) m h (omega arith) l

-- ---- the entries
module _ (cs : Float) (C : Bounded 120 cs) (m : ℕ) (M : m ≤ 199) where
  entry_d_bounded : (k : ℕ) → k ≤ 600 → Bounded 288 (entry_d m k cs)
  entry_d_bounded k K =
      let n = m + k in
      let x = dbl n ⊗ dbl (n + 1) in
      let y = quotient_d n m in
      bounded_more 145 288 (x ⊕ y ⊗ cs) (omega arith)
      (add_bounded 144 x (y ⊗ cs) (omega arith)
      (bounded_more 24 144 x (omega arith) (rw (dbl_product n (n + 1) (omega arith) (omega arith)) (dbl_bounded 24 (n * (n + 1)) (omega arith) (few n (n + 1) (omega arith) (omega arith)))))
      (mul_bounded 24 120 y cs (omega arith) (quotient_d_bounded n m (omega arith) (omega arith)) C))

  entry_e_bounded : (k : ℕ) → k ≤ 600 → Bounded 288 (entry_e m k cs)
  unfolding entry_e fits
  entry_e_bounded k K =
      cases (Bounded 288) (ltb k 2) #0 (sqrt (entry_a m (k - 2) cs ⊗ entry_g m k cs)) (λ _. zero_bounded 288)
      (λ h.
      let l : 2 ≤ k = ltb-false k 2 h in
      let a = small_a m (k - 2) M (omega arith) in
      let g = small_g k (2 * (m + k)) l K (omega arith) (omega arith) in
      let x = entry_a m (k - 2) cs in
      let y = entry_g m k cs in
      let b = mul_bounded 144 144 x y (omega arith) (mul_bounded 24 120 _ cs (omega arith) a.0 C) (mul_bounded 24 120 _ cs (omega arith) g.0 C) in
      bounded_more 144 288 (sqrt (x ⊗ y)) (omega arith) (root_bounded 144 (x ⊗ y) tt (mul-fits binary64 x y) (multiples_unsigned _ _ cs a.1 g.1) b))

-- what holds of zero and of every entry holds of every place of the array
all_places : (P : Float → Type 0) (entry : ℕ → Float) (parity n : ℕ) → P #0 → ((k : ℕ) → k ≤ 600 → P (entry k)) → parity < 2 → n ≤ 300 → (q : ℕ) → q < 300 → P (at (first_entries entry parity n) q)
unfolding first_entries blank_entries
all_places P entry parity zero z h p l q r = subst P (sym (get_or-replicate 300 q #0 nan r)) z
all_places P entry parity (suc n) z h p l q r =
    stored P nan (first_entries entry parity n) n q (entry (2 * n + parity)) (all_places P entry parity n z h p (omega arith) q r) (λ _. h (2 * n + parity) (omega arith))

-- ---- the bounds

-- both bounds are finite, and at most 2 ^ 290 in size
abbrev pub Finite : Bounds → Type 0
Finite b = Bounded 290 b.lower × Bounded 290 b.upper

module _ (ds es : List Float) (D : (q : ℕ) → q < 300 → Bounded 288 (at ds q)) (E : (q : ℕ) → q < 300 → Bounded 288 (at es q)) where
  size_e : (q : ℕ) → q < 300 → Bounded 288 (abs (at es q))
  size_e q l = bounded_abs 288 (at es q) (E q l)

  from_bounded : (last n : ℕ) → last < 300 → n < 300 → Finite (bounds_from ds es last n)
  unfolding bounds_from widen
  from_bounded last zero h l =
      let d = at ds last in
      let t = abs (at es last) in (
        bounded_more 289 290 (d ⊖ t) (omega arith) (sub_bounded 288 d t (omega arith) (D last h) (size_e last h)),
        bounded_more 289 290 (d ⊕ t) (omega arith) (add_bounded 288 d t (omega arith) (D last h) (size_e last h)),
      )
  from_bounded last (suc n) h l =
      let b = from_bounded last n h (omega arith) in
      let d = at ds n in
      let t = abs (at es n) ⊕ abs (at es (n + 1)) in
      let p = bounded_more 288 289 d (omega arith) (D n (omega arith)) in
      let q = add_bounded 288 (abs (at es n)) (abs (at es (n + 1))) (omega arith) (size_e n (omega arith)) (size_e (n + 1) (omega arith)) in (
        lesser_one (Bounded 290) (bounds_from ds es last n).lower (d ⊖ t) b.0 (sub_bounded 289 d t (omega arith) p q),
        greater_one (Bounded 290) (bounds_from ds es last n).upper (d ⊕ t) b.1 (add_bounded 289 d t (omega arith) p q),
      )

pub bounds_finite : (m parity : ℕ) (cs : Float) (entries : ℕ) → m ≤ 199 → parity < 2 → Bounded 120 cs → entries ≤ 300 → Finite (bounds_of (diagonal m parity cs entries) (off_diagonal m parity cs entries) entries)
unfolding bounds_of
bounds_finite m parity cs entries M p C l =
    from_bounded _ _ (all_places (Bounded 288) (λ k. entry_d m k cs) parity entries (zero_bounded 288) (entry_d_bounded cs C m M) p l) (all_places (Bounded 288) (λ k. entry_e m k cs) parity entries (zero_bounded 288) (entry_e_bounded cs C m M) p l)
    (entries - 1) (entries - 1) (omega arith) (omega arith)

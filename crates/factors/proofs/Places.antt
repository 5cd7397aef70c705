-- The table's places, and what is looked up there. Assumes nothing.
use Prim.Native.Nat.{ℕ, zero, suc, ◌+◌, ◌*◌, ◌<◌}
use mathlib.Core.Path.{◌≡◌, refl, sym, ap, subst, ◌∙◌}
use mathlib.Core.Bool.{Bool, true, false, not, cond, ◌&&◌}
use mathlib.Core.List.{List, ◌++◌}
use native.Mathlib.Nat.{add-zero}
use native.Mathlib.Omega.{arith}
use borrow.Author.Tests.{ltb-true}
use lib.Dec.{T, ltb}
use lib.Ieee.{binary64, is_nan, nan_bits}
use lib.Ieee.Bits.{of_bits-to_bits, nan_bits_is}
use lib.Ieee.Fits.{div-fits}
use lib.ListN.{get_or, length, length-append, get_or-append}
use lib.Seq.{get_or-append-add}
use Rattle.arith.specs.Double.{bits, bits_of}
use Rattle.arith.proofs.Laws.{round_number}
use Rattle.factors.specs.Factors.{factor_a, bits_from, bits_of_order, factor_table}
use Rattle.factors.specs.Lookup.{place, TableLaw, LookupLaw}
use Rattle.factors.proofs.Quotient.{top, bottom, once_rounded}

-- ---- lists one after the other

-- at a place of the second list
past : (xs ys : List ℕ) (n k j : ℕ) → length xs ≡ n → k ≡ n + j → get_or (xs ++ ys) k 0 ≡ get_or ys j 0
past xs ys n k j e h = rw (h, ← e) (get_or-append-add xs ys j 0)

-- ---- a family's entries
length_bits : (m parity i n : ℕ) → length (bits_from m parity i n) ≡ n
unfolding bits_from
length_bits m parity i zero = refl
length_bits m parity i (suc n) = ap suc (length_bits m parity (i + 1) n)

bits_at : (m parity i n j : ℕ) → j < n → get_or (bits_from m parity i n) j 0 ≡ bits_of (factor_a m (2 * (i + j) + parity))
unfolding bits_from
bits_at m parity i zero j h = absurd (omega arith)
bits_at m parity i (suc n) zero h = rw (add-zero i)
bits_at m parity i (suc n) (suc j) h =
    let e : i + 1 + j ≡ i + suc j = omega arith in
    rw (← e) (bits_at m parity (i + 1) n j (omega arith))

-- ---- an order's
length_order : (m : ℕ) → length (bits_of_order m) ≡ 400
length_order m = length-append (bits_from m 0 0 200) (bits_from m 1 0 200) ∙ rw (length_bits m 0 0 200, length_bits m 1 0 200)

order_at : (m parity i : ℕ) → parity < 2 → i < 200 → get_or (bits_of_order m) (200 * parity + i) 0 ≡ bits_of (factor_a m (2 * i + parity))
order_at m zero i h k =
    let e : 200 * 0 + i ≡ i = omega arith in
    let z : 0 + i ≡ i = omega arith in
    rw e (get_or-append (bits_from m 0 0 200) (bits_from m 1 0 200) 0 i (rw (length_bits m 0 0 200) k) ∙ bits_at m 0 0 200 i k ∙ rw z)
order_at m (suc zero) i h k =
    let z : 0 + i ≡ i = omega arith in
    past (bits_from m 0 0 200) (bits_from m 1 0 200) 200 (200 * 1 + i) i (length_bits m 0 0 200) (omega arith) ∙ bits_at m 1 0 200 i k ∙ rw z
order_at m (suc (suc p)) i h k = absurd (omega arith)

-- ---- the whole table
first : (m : ℕ) (ys : List ℕ) (j : ℕ) → j < 400 → get_or (bits_of_order m ++ ys) j 0 ≡ get_or (bits_of_order m) j 0
first m ys j h = get_or-append (bits_of_order m) ys 0 j (rw (length_order m) h)

next : (m : ℕ) (ys : List ℕ) (k j : ℕ) → k ≡ 400 + j → get_or (bits_of_order m ++ ys) k 0 ≡ get_or ys j 0
next m ys k j h = past (bits_of_order m) ys 400 k j (length_order m) h

table_at : (m j k : ℕ) → m < 4 → j < 400 → k ≡ 400 * m + j → get_or factor_table k 0 ≡ get_or (bits_of_order m) j 0
unfolding factor_table
table_at zero j k h l e = let z : k ≡ j = omega arith in rw z (first 0 _ j l)
table_at (suc zero) j k h l e = next 0 _ k j (omega arith) ∙ first 1 _ j l
table_at (suc (suc zero)) j k h l e = next 0 _ k (400 + j) (omega arith) ∙ next 1 _ (400 + j) j refl ∙ first 2 _ j l
table_at (suc (suc (suc zero))) j k h l e = next 0 _ k (800 + j) (omega arith) ∙ next 1 _ (800 + j) (400 + j) (omega arith) ∙ next 2 _ (400 + j) j refl
table_at (suc (suc (suc (suc m)))) j k h l e = absurd (omega arith)

pub table_length : length factor_table ≡ 1600
unfolding factor_table
table_length = simp (length-append, length_bits)

pub table_law : TableLaw
table_law =
    (table_length, λ m parity i h k l. table_at m (200 * parity + i) (place m parity i) h (omega arith) (omega arith) ∙ order_at m parity i k l)

-- ---- what is looked up

-- a place of the table holds its entry's factor
pub read_there : (m parity i : ℕ) → m < 4 → parity < 2 → i < 200 → bits (get_or factor_table (place m parity i) 0) ≡ factor_a m (2 * i + parity)
read_there m parity i h k l = rw (table_law.1 m parity i h k l) (of_bits-to_bits binary64 (factor_a m (2 * i + parity)) (div-fits binary64 _ _))

-- and no NaN's pattern
pub no_nan : (m parity i : ℕ) → m < 4 → parity < 2 → i < 200 → T (not (nan_bits binary64 (get_or factor_table (place m parity i) 0)))
no_nan m parity i h k l =
    subst (λ (t : Bool). T (not t))
    (sym (nan_bits_is binary64 _ ∙ ap is_nan (read_there m parity i h k l ∙ once_rounded m (2 * i + parity) (omega arith)) ∙ round_number false (top m (2 * i + parity)) (bottom m (2 * i + parity))))
    tt

-- looked up or worked out, it is the same
pub lookup_law : LookupLaw
lookup_law m parity i h = go (ltb m 4) (ltb i 200) refl refl
  where
    go : (s t : Bool) → ltb m 4 ≡ s → ltb i 200 ≡ t → cond (s && t) (bits (get_or factor_table (place m parity i) 0)) (factor_a m (2 * i + parity)) ≡ factor_a m (2 * i + parity)
    go true true p q = read_there m parity i (ltb-true m 4 p) h (ltb-true i 200 q)
    go true false p q = refl
    go false t p q = refl

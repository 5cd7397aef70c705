-- A c that is zero, of either sign: its square is +0, which leaves a whole number as it is, added or taken away. Assumes nothing.
use Prim.Native.Nat.{ℕ, ◌+◌, ◌-◌, ◌*◌, ◌^◌, ◌≤◌, ◌<◌}
use native.Mathlib.Nat.{mul-one, zero-mul, mul-pos}
use native.Mathlib.Omega.{arith}
use mathlib.Core.Path.{◌≡◌, sym, ap, ◌∙◌}
use mathlib.Core.Bool.{Bool, true, false}
use borrow.Author.Tests.{lt-ltb, le-ltb}
use lib.IntN.{ℤ, pos}
use lib.Ieee.{Float, nan, inf, fin, binary64, up, down, round, sum, add, sub, mul, neg, lt, eq, of_int, of_bits, below}
use lib.Ieee.Back.{round_whole}
use lib.Ieee.Scale.{round_same}
use lib.Ieee.Exact.{HasValue}
use lib.Ieee.Fits.{down_pos}
use Rattle.arith.specs.Double.{◌⊕◌, ◌⊖◌, ◌⊗◌, dbl, #0, #1e-10}
use Rattle.arith.proofs.Flags.{not_taken, not_left}
use Rattle.arith.proofs.Zeros.{nothing, zero_size}

zero_round : (a d : ℕ) → a ≡ 0 → 0 < d → round binary64 false (a * a) d ≡ #0
unfolding round of_bits
zero_round a d z h = ap (λ (a : ℕ). round binary64 false (a * a) d) z ∙ round_same binary64 false 0 d 0 1 h (omega arith) (sym (zero-mul d))

pub zero_square : (c : Float) → eq c #0 ≡ true → c ⊗ c ≡ #0
unfolding mul eq of_bits
zero_square nan h = not_taken h
zero_square (inf s) h = not_taken h
zero_square (fin false m e) h = zero_round (m * up e) (down e * down e) (zero_size false m e h) (mul-pos (down_pos e) (down_pos e))
zero_square (fin true m e) h = zero_round (m * up e) (down e * down e) (zero_size true m e h) (mul-pos (down_pos e) (down_pos e))

below_above : (s : Bool) (a p b : ℕ) → a ≡ 0 → 0 < b → below s (a * p) false b ≡ true
below_above s a p b z h = go s (a * p) (ap (λ (a : ℕ). a * p) z ∙ zero-mul p)
  where
    go : (s : Bool) (q : ℕ) → q ≡ 0 → below s q false b ≡ true
    go false q e = lt-ltb q b (omega arith)
    go true q e = lt-ltb 0 (q + b) (omega arith)

pub zero_below : (c : Float) → eq c #0 ≡ true → lt c #1e-10 ≡ true
unfolding lt eq of_bits
zero_below nan h = not_taken h
zero_below (inf s) h = not_taken h
zero_below (fin s m e) h = below_above s (m * up e) _ _ (zero_size s m e h) (mul-pos {m = 0x1b_7cdf_d9d7_bdbb} (omega arith) (down_pos e))

-- a zero with the sign t, added to a whole number
plus_zero : (k : ℕ) (t : Bool) → k ≤ 2 ^ 53 → add binary64 (dbl k) (fin t 0 (pos 0)) ≡ dbl k
unfolding of_int add sum
plus_zero k t h = whole (round binary64 false k 1) t (round_whole binary64 false k h)
  where
    same : (m : ℕ) (e : ℤ) (a : ℕ) → m * up e * 1 ≡ k * down e → a ≡ m * up e * 1 → round binary64 false a (down e * 1) ≡ round binary64 false k 1
    same m e a v p = round_same binary64 false a (down e * 1) k 1 (mul-pos (down_pos e) (omega arith)) (omega arith) (mul-one a ∙ p ∙ v ∙ ap (λ (z : ℕ). k * z) (sym (mul-one (down e))))

    whole : (x : Float) (t : Bool) → HasValue x false k 1 → add binary64 x (fin t 0 (pos 0)) ≡ round binary64 false k 1
    whole nan t v = absurd v
    whole (inf s) t v = absurd v
    whole (fin true m e) t v = not_left v.0
    whole (fin false m e) false v = same m e _ v.1 (more (m * up e * 1) (0 * 1 * down e) (nothing e))
      where
        more : (a b : ℕ) → b ≡ 0 → a + b ≡ a
        more a b z = omega arith
    whole (fin false m e) true v = rw (le-ltb (m * up e * 1) (0 * 1 * down e) (least (nothing e))) (same m e _ v.1 (less (m * up e * 1) (0 * 1 * down e) (nothing e)))
      where
        least : {b : ℕ} → b ≡ 0 → b ≤ m * up e * 1
        least z = omega arith

        less : (a b : ℕ) → b ≡ 0 → a - b ≡ a
        less a b z = omega arith

pub less_zero : (k : ℕ) → k ≤ 2 ^ 53 → dbl k ⊖ #0 ≡ dbl k
unfolding sub neg of_bits
less_zero k h = plus_zero k true h

pub more_zero : (k : ℕ) → k ≤ 2 ^ 53 → dbl k ⊕ #0 ≡ dbl k
unfolding of_bits
more_zero k h = plus_zero k false h

-- How the definitions of `kmn`, `qstar` and `cbk` unfold at one turn of a loop, in the form in which the proofs of the code meet them. Assumes nothing.
use Prim.Native.Nat.{ℕ, zero, suc, ◌+◌, ◌-◌, ◌%◌, ◌≤◌, ◌<◌}
use mathlib.Core.Path.{◌≡◌, refl, sym, ap}
use mathlib.Core.Bool.{true, false}
use mathlib.Core.List.{List}
use native.Mathlib.Omega.{arith}
use lib.Ieee.{Float, neg}
use lib.ListN.{set}
use Rattle.arith.specs.Double.{◌⊕◌, ◌⊖◌, ◌⊗◌, ◌⊘◌, at, #0}
use Rattle.expansion.specs.Terms.{terms_of}
use Rattle.expansion.specs.Sums.{settled, blank}
use Rattle.expansion.specs.declared.sckb.Partial.{Partial}
use Rattle.joining.specs.declared.sums.Test.{Test}
use Rattle.joining.specs.Sums.{next_factor, stops, sum_on}
use Rattle.joining.specs.Qstar.{s_at, sk_of, r_of, ap_up_to}
use Rattle.joining.specs.Cbk.{Solved, added, r1_at, s1_from, right_sides, v_at, w_at, solved, rows, eliminated, substituted, cbk}

-- ---- a term of the sum over the expansion coefficients
abbrev pub partial : Float → Float → Partial
partial sum sw = record { sum = sum; sw = sw }

module _ (test : Test) (df : List Float) (m ip half left k : ℕ) (r r' sum sw : Float) (hr : r' ≡ next_factor m ip k r) where
  pub sum_stop : stops test half k (sum ⊕ r' ⊗ at df (k - 1)) sw ≡ true → partial (sum ⊕ r' ⊗ at df (k - 1)) sw ≡ sum_on test df m ip half (suc left) k r sum sw
  unfolding sum_on
  sum_stop h = rw hr (sym (rw (rw hr at h, sum_on)))

  pub sum_on_lem : stops test half k (sum ⊕ r' ⊗ at df (k - 1)) sw ≡ false
      → sum_on test df m ip half left (suc k) r' (sum ⊕ r' ⊗ at df (k - 1)) (sum ⊕ r' ⊗ at df (k - 1)) ≡ sum_on test df m ip half (suc left) k r sum sw
  unfolding sum_on
  sum_on_lem h = rw hr (sym (rw (rw hr at h, sum_on)))

-- ---- a list that holds f up to a place

abbrev pub Table : (ℕ → Float) → ℕ → List Float → Type 0
Table f n xs = (q : ℕ) → q < n → at xs q ≡ f q

-- ---- the sum over l sees its sums sk up to the last term only
pub same_sums : (f g : ℕ → Float) (ap : List Float) (i n : ℕ) → ((l : ℕ) → l ≤ n → f l ≡ g l) → s_at f ap i n ≡ s_at g ap i n
unfolding s_at
same_sums f g ap i zero e = refl
same_sums f g ap i (suc n) e = rw (same_sums f g ap i n (λ l h. e l (omega arith)), e (suc n) (omega arith))

pub ap_on : (ck ap sk : List Float) (i j : ℕ) (s : Float) → i ≡ suc j → ap ≡ ap_up_to ck j → ((l : ℕ) → l ≤ i → at sk l ≡ sk_of ck l) → s ≡ s_at (λ l. at sk l) ap i i → set ap i (neg (r_of ck) ⊗ s) ≡ ap_up_to ck i
unfolding ap_up_to
ap_on ck ap sk i j s e ha hk hs = rw (hs, same_sums (λ l. at sk l) (λ l. sk_of ck l) ap i i hk, ha, e)

-- ---- a term of a right side, with its product at hand
module _ (ck : List Float) (m ip k left i : ℕ) (p s s1 sw : Float) (is : p ≡ r1_at m i k) (hs : s ≡ added ck m ip i p s1) where
  pub s1_stop : settled s sw ≡ true → record { sum = s; sw = sw } ≡ s1_from ck m ip k (suc left) i s1 sw
  unfolding s1_from
  s1_stop h = rw (hs, is) (sym (rw (rw (hs, is) at h, s1_from)))

  pub s1_on : settled s sw ≡ false → s1_from ck m ip k left (suc i) s s ≡ s1_from ck m ip k (suc left) i s1 sw
  unfolding s1_from
  s1_on h = rw (hs, is) (sym (rw (rw (hs, is) at h, s1_from)))

-- ---- a row of the elimination
pub rows_on : (m ip : ℕ) (cv u v x : Float) (w bk : List Float) (s : Solved) (k : ℕ) → solved w bk ≡ rows m ip cv u k s → v ≡ v_at m ip cv (k + 2) → x ≡ w_at ip (k + 2)
    → solved (set w (suc k) (x ⊘ (v ⊖ at w k ⊗ u))) (set bk (suc k) ((at bk (suc k) ⊖ at bk k ⊗ u) ⊘ (v ⊖ at w k ⊗ u))) ≡ rows m ip cv u (suc k) s
unfolding rows
rows_on m ip cv u v x w bk s k e hv hx = rw (← e, ← hv, ← hx)

-- ---- the disc's coefficients, from the right sides on
pub cbk_is : (ck : List Float) (m n : ℕ) (c cv qt : Float) (ip nm : ℕ) (b : List Float) (s : Solved) (y : List Float) → ip ≡ (n - m) % 2 → nm ≡ terms_of (n - m) c → b ≡ right_sides ck m ip nm qt (nm - 2) 0 #0 blank
    → s ≡ eliminated m ip cv (c ⊗ c) (nm - 2 - 1) b → y ≡ substituted s.w (nm - 2 - 1) s.bk → y ≡ cbk ck m n c cv qt
unfolding cbk
cbk_is ck m n c cv qt ip nm b s y hi hn hb he hy = rw (← hi, ← hn, ← hb, ← he, hy)

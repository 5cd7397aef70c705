-- The cosine and the sine of arguments up to 2, by their first terms, and what follows for the code's numbers. Assumes nothing.
use mathlib.Core.Path.{◌≡◌, refl, sym, ap, ◌∙◌, subst}
use mathlib.Core.Logic.{inl, inr}
use Prim.Native.Nat.{ℕ, suc, ◌+◌, ◌-◌, ◌*◌, ◌^◌, ◌≤◌, ◌<◌}
use native.Mathlib.Nat.{le_trans, le_of_eq, le_of_lt, le_refl, lt_of_not-le, add-mul, mul_assoc, mul-le-mul, mul-le-mul_right, le_of_mul-le-mul_right, le_of_mul-le-mul_left, mul-pos, one-mul, mul-one, zero-lt-suc}
use native.Mathlib.Decide.{dec_le}
use native.Mathlib.Omega.{arith}
use lib.Dec.{leb→le}
use lib.Pow.{pow_pos}
use Rattle.circle.specs.Series.{east, north, west, south, at, sum, part}
use Rattle.circle.specs.Series.{term}
use Rattle.arctangents.specs.Arctangent.{NotBelow}
use Rattle.circle.specs.Inside.Fixed.{Apart}
use Rattle.circle.specs.Inside.Signed.{plus, less}
use Rattle.circle.specs.Inside.Circle.{State, IsCircle, error}
use Rattle.arctangents.specs.Inside.Arctangent.{Good}
use Rattle.circle.proofs.Sums.{sum_upto}
use Rattle.circle.proofs.Terms.{term_law, ratio, halves, gain}
use Rattle.circle.proofs.Follows.{term_pos}
use Rattle.circle.proofs.Alternate.{two_law, east_further, west_further, west_most}
use Rattle.circle.proofs.Alternate.{from_zero}
use Rattle.arctangents.proofs.Sides.{state_at, error_5}

-- ---- the cosine up to 1
module _ (a b n : ℕ) (b0 : 0 < b) (small : a ≤ b) (l : 600 ≤ n) where
  abbrev u : ℕ → ℕ
  u = term a b n

  shrink : (k : ℕ) → suc k < n → suc k * suc (suc k) * u (suc (suc k)) ≤ u k
  shrink k h = le_of_mul-le-mul_left {k = b * b} (le_trans (le_of_eq (two_law u a b n k (term_law a b n) h)) (mul-le-mul_right (u k) (mul-le-mul small small))) (mul-pos b0 b0)

  pub cosine_up : 3 * part u n west + u 0 ≤ 3 * part u n east
  cosine_up = rw (wests, easts) (go (u 0) (u 2) (u 4) (part (λ (j : ℕ). u (2 + j)) (n - 2) west) (part (λ (j : ℕ). u (4 + j)) (n - 4) west) (shrink 0 (two n l)) (shrink 2 (four n l)) (west_most u a b n 4 (n - 4) b0 small (term_law a b n) (zero-lt-suc 3) (fits n l)))
    where
      two : (n : ℕ) → 600 ≤ n → 1 < n
      two n l = omega arith

      four : (n : ℕ) → 600 ≤ n → 3 < n
      four n l = omega arith

      fits : (n : ℕ) → 600 ≤ n → 4 + (n - 4) ≤ n
      fits n l = omega arith

      off : (n : ℕ) → 600 ≤ n → n ≡ suc (suc (n - 2))
      off n l = omega arith

      off_2 : (n : ℕ) → 600 ≤ n → n - 2 ≡ suc (suc (n - 4))
      off_2 n l = omega arith

      easts : part u n east ≡ u 0 + part (λ (j : ℕ). u (2 + j)) (n - 2) west
      easts = from_zero u n east ∙ ap (λ (x : ℕ). part (λ (j : ℕ). u (0 + j)) x east) (off n l) ∙ east_further u 0 (n - 2)

      wests : part u n west ≡ u 2 + part (λ (j : ℕ). u (4 + j)) (n - 4) west
      wests = from_zero u n west ∙ ap (λ (x : ℕ). part (λ (j : ℕ). u (0 + j)) x west) (off n l) ∙ west_further u 0 (n - 2) ∙ ap (λ (x : ℕ). part (λ (j : ℕ). u (2 + j)) x east) (off_2 n l) ∙ east_further u 2 (n - 4)

      go : (z t f p q : ℕ) → 1 * 2 * t ≤ z → 3 * 4 * f ≤ t → q ≤ f → 3 * (t + q) + z ≤ 3 * (z + p)
      go z t f p q h k m = omega arith

-- ---- the sine up to 2
module _ (a b n : ℕ) (b0 : 0 < b) (small : a ≤ 2 * b) (l : 600 ≤ n) where
  abbrev w : ℕ → ℕ
  w = term a b n

  small' : a * 1 ≤ 2 * b
  small' = le_trans (le_of_eq (mul-one a)) small

  next : (k : ℕ) → k < n → 1 * (suc k * w (suc k)) ≤ 2 * w k
  next k h = ratio w a b n 2 1 b0 (term_law a b n) small' k h

  room : (k : ℕ) → k < 600 → k < n
  room k h = le_trans h l

  south_most : part w n south ≤ w 3 + w 6
  unfolding sum at
  south_most = drop (part w n south) (w n) (w 0) (w 1) (w 2) (w 3) (w 4) (w 5) (w 6) (subst (λ (x : ℕ). part w x south + w x ≤ part w 6 south + w 6) (all n l) (gain w south 6 (n - 6) (λ k p q. halves w a b n 2 1 b0 (term_law a b n) small' k (inside k n l q) (zero-lt-suc 1) (far k p))))
    where
      all : (n : ℕ) → 600 ≤ n → 6 + (n - 6) ≡ n
      all n l = omega arith

      inside : (k n : ℕ) → 600 ≤ n → k < 6 + (n - 6) → k < n
      inside k n l q = omega arith

      far : (k : ℕ) → 6 ≤ k → 2 * 2 ≤ 1 * suc k
      far k p = omega arith

      drop : (s r a b c d e f g : ℕ) → s + r ≤ 0 * a + 0 * b + 0 * c + 1 * d + 0 * e + 0 * f + 0 * g + g → s ≤ d + g
      drop s r a b c d e f g h = omega arith

  north_least : w 1 ≤ part w n north
  unfolding sum at
  north_least = le_trans (go (w 0) (w 1)) (sum_upto (λ (j : ℕ). at north j * w j) 1 n (le_trans (leb→le 1 600 tt) l))
    where
      go : (x y : ℕ) → y ≤ 0 * x + 1 * y
      go x y = omega arith

  south_small : 45 * part w n south ≤ 32 * w 1
  south_small = go (part w n south) (w 1) (w 2) (w 3) (w 4) (w 5) (w 6) south_most (next 1 (room 1 (leb→le 2 600 tt))) (next 2 (room 2 (leb→le 3 600 tt))) (next 3 (room 3 (leb→le 4 600 tt))) (next 4 (room 4 (leb→le 5 600 tt))) (next 5 (room 5 (leb→le 6 600 tt)))
    where
      go : (s b c d e f g : ℕ) → s ≤ d + g → 1 * (2 * c) ≤ 2 * b → 1 * (3 * d) ≤ 2 * c → 1 * (4 * e) ≤ 2 * d → 1 * (5 * f) ≤ 2 * e → 1 * (6 * g) ≤ 2 * f → 45 * s ≤ 32 * b
      go s b c d e f g h k m o p q = omega arith

  pub sine_not_negative : part w n south ≤ part w n north
  sine_not_negative = go (part w n south) (w 1) (part w n north) south_small north_least
    where
      go : (s v t : ℕ) → 45 * s ≤ 32 * v → v ≤ t → s ≤ t
      go s v t h k = omega arith

  pub sine_up : b ≤ a → 4 * part w n south + w 0 ≤ 4 * part w n north
  sine_up h = go (part w n south) (w 1) (part w n north) (w 0) south_small north_least (le_of_mul-le-mul_left {k = b} (le_trans (mul-le-mul_right (w 0) h) (le_of_eq (sym (term_law a b n 0 (room 0 (leb→le 1 600 tt))) ∙ ap (λ (x : ℕ). b * x) (one-mul (w 1))))) b0)
    where
      go : (s v t z : ℕ) → 45 * s ≤ 32 * v → v ≤ t → z ≤ v → 4 * s + z ≤ 4 * t
      go s v t z h k m = omega arith

-- ---- the code's numbers
good_from : (W G Pe Pw Pn Ps ε cp cm sp sm : ℕ) → 0 < W → G ≡ 2 ^ 63 → ε ≤ 8192 → Apart (sp * W) (sm * W) (Pn * G) (Ps * G) (ε * W) → Ps ≤ Pn → sm ≤ sp + 8192
good_from W G Pe Pw Pn Ps ε cp cm sp sm w0 isG few a h = le_of_mul-le-mul_right {k = W} (le_trans (go (sm * W) (sp * W) (Pn * G) (Ps * G) (ε * W) (8192 * W) a.over (mul-le-mul_right G h) (mul-le-mul_right W few)) (le_of_eq (sym (add-mul sp 8192 W)))) w0
  where
    go : (m p n s e f : ℕ) → n + m ≤ p + s + e → s ≤ n → e ≤ f → m ≤ p + f
    go m p n s e f h k l = omega arith

-- a difference of at least a quarter
big_from : (W P Q ε p m : ℕ) → 0 < W → ε ≤ 8192 → Apart (p * W) (m * W) (P * 2 ^ 63) (Q * 2 ^ 63) (ε * W) → 4 * Q + W ≤ 4 * P → 2 ^ 60 + m ≤ p
big_from W P Q ε p m w0 few a h = half p m (le_of_mul-le-mul_right {k = W} (le_trans (le_of_eq (add-mul (2 ^ 63) (4 * m) W ∙ ap (λ (z : ℕ). 2 ^ 63 * W + z) (mul_assoc 4 m W))) (le_trans (go (m * W) (p * W) W (ε * W) (8192 * W) a.over h (mul-le-mul_right W few)) (le_of_eq (sym (add-mul (4 * p) (4 * 8192) W ∙ ap (λ (z : ℕ). z + 4 * 8192 * W) (mul_assoc 4 p W)))))) w0)
  where
    go : (m p w e f : ℕ) → P * 2 ^ 63 + m ≤ p + Q * 2 ^ 63 + e → 4 * Q + w ≤ 4 * P → e ≤ 8192 * w → 2 ^ 63 * w + 4 * m ≤ 4 * p + 4 * 8192 * w
    go m p w e f h k l = omega (arith, h, k, l)

    half : (p m : ℕ) → 2 ^ 63 + 4 * m ≤ 4 * p + 4 * 8192 → 2 ^ 60 + m ≤ p
    half p m h = omega arith

pub good_of : (y cn c sn s : ℕ) → y ≤ 2 ^ 59 → IsCircle y 5 cn c sn s → c ≤ 9 * 2 ^ 60 → s ≤ 9 * 2 ^ 60 → Good cn c sn s
good_of y cn c sn s h i cs ss = record {
  c_most = cs;
  s_most = ss;
  s_sign = good_from (u' 0) (2 ^ 63) (part u' 600 east) (part u' 600 west) (part u' 600 north) (part u' 600 south) (error 5) (plus cn c) (less cn c) (plus sn s) (less sn s) pos refl error_5 t.sine (sine_not_negative y (2 ^ 58) 600 (pow_pos 58) h (le_refl 600));
  either = elim (dec_le y (2 ^ 58)) [
    | yes k ↦ inl (big_from (u' 0) (part u' 600 east) (part u' 600 west) (error 5) (plus cn c) (less cn c) pos error_5 t.cosine (third (part u' 600 west) (u' 0) (part u' 600 east) (cosine_up y (2 ^ 58) 600 (pow_pos 58) k (le_refl 600))))
    | no f ↦ inr (big_from (u' 0) (part u' 600 north) (part u' 600 south) (error 5) (plus sn s) (less sn s) pos error_5 t.sine (sine_up y (2 ^ 58) 600 (pow_pos 58) h (le_refl 600) (le_of_lt (lt_of_not-le f))))
  ];
}
  where
    u' : ℕ → ℕ
    u' = term y (2 ^ 58) 600

    t : State (term y (2 ^ 58) 600) (term y (2 ^ 58) 600 0) 600 (2 ^ 63) (error 5) (plus cn c) (less cn c) (plus sn s) (less sn s)
    t = state_at y cn c sn s h i 600 (le_refl 600)

    pos : 0 < term y (2 ^ 58) 600 0
    pos = term_pos y (2 ^ 58) 600 (pow_pos 58)

    third : (w z e : ℕ) → 3 * w + z ≤ 3 * e → 4 * w + z ≤ 4 * e
    third w z e h = omega arith

-- ---- 2 is above every arctangent
pub two_above : (a b n : ℕ) → 600 ≤ n → NotBelow a b (2 ^ 59) (2 ^ 58) n
unfolding sum at
two_above a b n l = add_le (mul-le-mul_right a cosine_negative) (mul-le-mul_right b (sine_not_negative (2 ^ 59) (2 ^ 58) n (pow_pos 58) (le_refl (2 ^ 59)) l))
  where
    v : ℕ → ℕ
    v = term (2 ^ 59) (2 ^ 58) n

    add_le : {e w s t : ℕ} → e ≤ w → s ≤ t → e + s ≤ t + w
    add_le h k = omega (arith, h, k)

    room : (k : ℕ) → k < 600 → k < n
    room k h = le_trans h l

    law : (k : ℕ) → k < 600 → suc k * v (suc k) ≡ 2 * v k
    law k h = cut (suc k * v (suc k)) (v k) (term_law (2 ^ 59) (2 ^ 58) n k (room k h))
      where
        cut : (x y : ℕ) → 2 ^ 58 * x ≡ 2 ^ 59 * y → x ≡ 2 * y
        cut x y e = omega arith

    east_most : part v n east ≤ v 0 + v 4 + 2 * v 8
    east_most = drop (part v n east) (v n) (v 0) (v 1) (v 2) (v 3) (v 4) (v 5) (v 6) (v 7) (v 8) (subst (λ (x : ℕ). part v x east + v x ≤ part v 8 east + v 8) (all n l) (gain v east 8 (n - 8) (λ k p q. halves v (2 ^ 59) (2 ^ 58) n 2 1 (pow_pos 58) (term_law (2 ^ 59) (2 ^ 58) n) (le_refl (2 ^ 59)) k (inside k n l q) (zero-lt-suc 1) (far k p))))
      where
        all : (n : ℕ) → 600 ≤ n → 8 + (n - 8) ≡ n
        all n l = omega arith

        inside : (k n : ℕ) → 600 ≤ n → k < 8 + (n - 8) → k < n
        inside k n l q = omega arith

        far : (k : ℕ) → 8 ≤ k → 2 * 2 ≤ 1 * suc k
        far k p = omega arith

        drop : (s r a b c d e f g h i : ℕ) → s + r ≤ 1 * a + 0 * b + 0 * c + 0 * d + 1 * e + 0 * f + 0 * g + 0 * h + 1 * i + i → s ≤ a + e + 2 * i
        drop s r a b c d e f g h i k = omega arith

    west_least : v 2 ≤ part v n west
    west_least = le_trans (go (v 0) (v 1) (v 2)) (sum_upto (λ (j : ℕ). at west j * v j) 2 n (le_trans (leb→le 2 600 tt) l))
      where
        go : (x y z : ℕ) → z ≤ 0 * x + 0 * y + 1 * z
        go x y z = omega arith

    cosine_negative : part v n east ≤ part v n west
    cosine_negative = le_trans east_most (le_trans (go (v 0) (v 1) (v 2) (v 3) (v 4) (v 5) (v 6) (v 7) (v 8) (law 0 (leb→le 1 600 tt)) (law 1 (leb→le 2 600 tt)) (law 2 (leb→le 3 600 tt)) (law 3 (leb→le 4 600 tt)) (law 4 (leb→le 5 600 tt)) (law 5 (leb→le 6 600 tt)) (law 6 (leb→le 7 600 tt)) (law 7 (leb→le 8 600 tt))) west_least)
      where
        go : (a b c d e f g h i : ℕ) → 1 * b ≡ 2 * a → 2 * c ≡ 2 * b → 3 * d ≡ 2 * c → 4 * e ≡ 2 * d → 5 * f ≡ 2 * e → 6 * g ≡ 2 * f → 7 * h ≡ 2 * g → 8 * i ≡ 2 * h → a + e + 2 * i ≤ c
        go a b c d e f g h i p1 p2 p3 p4 p5 p6 p7 p8 = omega arith

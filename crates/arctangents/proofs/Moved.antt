-- From the cosine and the sine at one argument to those at another a little above it, by the addition theorem. Assumes nothing.
use mathlib.Core.Path.{◌≡◌, sym, ap, ◌∙◌, subst}
use Prim.Native.Nat.{ℕ, ◌+◌, ◌-◌, ◌*◌, ◌^◌, ◌≤◌, ◌<◌}
use native.Mathlib.Nat.{le_trans, le_of_eq, le_refl, mul-add, mul_comm, mul_assoc, mul_left_comm, mul-le-mul_left, mul-pos, one-mul, pow-zero}
use native.Mathlib.Omega.{arith}
use lib.Pow.{pow_pos}
use Rattle.circle.specs.Series.{Quarter, east, north, west, south, part}
use Rattle.circle.specs.Inside.Circle.{mix}
use Rattle.circle.specs.Series.{falling, term}
use Rattle.circle.specs.Inside.Fixed.{Apart}
use Rattle.circle.specs.Inside.Law.{Law}
use Rattle.circle.specs.Inside.Circle.{State}
use Rattle.circle.proofs.Signed.{apart_trans, apart_swap, apart_wider, apart_times, apart_cancel}
use Rattle.circle.proofs.Level.{product, gather, finish}
use Rattle.circle.proofs.Terms.{term_law, proportion}
use Rattle.circle.proofs.Follows.{part_scaled, carry, term_pos}
use Rattle.circle.proofs.Onward.{tail_small, tail_gain}
use Rattle.arctangents.proofs.Adding.{add_low, add_high}

-- ---- the same state over a longer row of terms
law_short : (a b N M : ℕ) → N ≤ M → Law (term a b M) a b N
law_short a b N M h k l = term_law a b M k (go k N M l h)
  where
    go : (k N M : ℕ) → k < N → N ≤ M → k < M
    go k N M l h = omega arith

-- the sums up to N in the units of two rows are in proportion
in_units : (a b N M : ℕ) → 0 < b → N ≤ M → (t : Quarter) → term a b M 0 * part (term a b N) N t ≡ term a b N 0 * part (term a b M) N t
in_units a b N M b0 h t = part_scaled (term a b N) (term a b M) N t (term a b M 0) (term a b N 0) (λ k l. proportion (term a b N) (term a b M) a b N b0 (term_law a b N) (law_short a b N M h) k l)

pub lift : (a b N M ε cp cm sp sm : ℕ) → 0 < b → N ≤ M → State (term a b N) (term a b N 0) N (2 ^ 63) ε cp cm sp sm → State (term a b M) (term a b M 0) N (2 ^ 63) ε cp cm sp sm
lift a b N M ε cp cm sp sm b0 h s = record {
  cosine = carry (term a b N 0) (term a b M 0) (2 ^ 63) cp cm (part (term a b N) N east) (part (term a b N) N west) (part (term a b M) N east) (part (term a b M) N west) ε (term_pos a b N b0) (in_units a b N M b0 h east) (in_units a b N M b0 h west) s.cosine;
  sine = carry (term a b N 0) (term a b M 0) (2 ^ 63) sp sm (part (term a b N) N north) (part (term a b N) N south) (part (term a b M) N north) (part (term a b M) N south) ε (term_pos a b N b0) (in_units a b N M b0 h north) (in_units a b N M b0 h south) s.sine;
}

lowered : (a b N M ε cp cm sp sm : ℕ) → 0 < b → N ≤ M → State (term a b M) (term a b M 0) N (2 ^ 63) ε cp cm sp sm → State (term a b N) (term a b N 0) N (2 ^ 63) ε cp cm sp sm
lowered a b N M ε cp cm sp sm b0 h s = record {
  cosine = carry (term a b M 0) (term a b N 0) (2 ^ 63) cp cm (part (term a b M) N east) (part (term a b M) N west) (part (term a b N) N east) (part (term a b N) N west) ε (term_pos a b M b0) (sym (in_units a b N M b0 h east)) (sym (in_units a b N M b0 h west)) s.cosine;
  sine = carry (term a b M 0) (term a b N 0) (2 ^ 63) sp sm (part (term a b M) N north) (part (term a b M) N south) (part (term a b N) N north) (part (term a b N) N south) ε (term_pos a b M b0) (sym (in_units a b N M b0 h north)) (sym (in_units a b N M b0 h south)) s.sine;
}

-- ---- the unit is the same for all arguments
unit_of : (a b M : ℕ) → term a b M 0 ≡ falling b M (M - 0)
unit_of a b M = ap (λ (x : ℕ). x * falling b M (M - 0)) (pow-zero a) ∙ one-mul (falling b M (M - 0))

within : (x y p q e : ℕ) → p ≤ x → x ≤ p + e → q ≤ y → y ≤ q + e → Apart x y p q e
within x y p q e a b c d = record { under = omega arith; over = omega arith }

module _ (y h q N : ℕ) (q0 : 0 < q) (small : y + h ≤ 200 * q) (l : 600 ≤ N) where
  abbrev M : ℕ
  M = N + N

  abbrev W : ℕ
  W = falling q M (M - 0)

  abbrev u : ℕ → ℕ
  u = term y q M

  abbrev v : ℕ → ℕ
  v = term h q M

  abbrev w : ℕ → ℕ
  w = term (y + h) q M

  wide : M ≤ M
  wide = le_refl M

  low : (t : Quarter) → W * part w N t ≤ mix (part u N) (part v N) t
  low t = add_low u v y h q M q0 (term_law y q M) (term_law h q M) w (term_law (y + h) q M) W (unit_of y q M) (unit_of h q M) (unit_of (y + h) q M) t N (omega arith)

  high : (t : Quarter) → mix (part u N) (part v N) t ≤ W * part w N t + W * w N
  high t = le_trans (add_high u v y h q M q0 (term_law y q M) (term_law h q M) w (term_law (y + h) q M) W (unit_of y q M) (unit_of h q M) (unit_of (y + h) q M) t N wide) (le_trans (mul-le-mul_left W (tail_gain w (y + h) q M q0 (term_law (y + h) q M) small N t l wide)) (le_of_eq (mul-add W (part w N t) (w N))))

  pub between : (t t' : Quarter) → Apart (mix (part u N) (part v N) t) (mix (part u N) (part v N) t') (W * part w N t) (W * part w N t') (W * w N)
  between t t' = within (mix (part u N) (part v N) t) (mix (part u N) (part v N) t') (W * part w N t) (W * part w N t') (W * w N) (low t) (high t) (low t') (high t')

  pub tiny : w N * 2 ^ 63 ≤ W
  tiny = le_trans (tail_small w (y + h) q M q0 (term_law (y + h) q M) small N l (omega arith)) (le_of_eq (unit_of (y + h) q M))

  pub unit_pos : 0 < W
  unit_pos = le_trans (term_pos y q M q0) (le_of_eq (unit_of y q M))

-- ---- from the product's sums to the code's numbers at the sum: c is within ε of Q - R, which is within τ of X - Y, which is p - m within e
pub meet : (W G p m X Y e Q R τ cp cm ε : ℕ) → 0 < W → 0 < G
    → Apart (W * W * p) (W * W * m) (G * G * X) (G * G * Y) (W * W * e)
    → Apart X Y (W * Q) (W * R) (W * τ)
    → Apart (cp * W) (cm * W) (Q * G) (R * G) (ε * W)
    → τ * G ≤ W
    → Apart (cp * G) (cm * G) p m (ε * G + G + e)
meet W G p m X Y e Q R τ cp cm ε w0 g0 prod sand near small =
    apart_cancel (W * W) (mul-pos w0 w0)
    (apart_wider (apart_trans (rw (own cp, own cm, other Q, other R, own ε) at (apart_times (W * G) near)) (apart_trans (apart_times (G * G) (flip sand)) (flip prod))) bound)
  where
    flip : {p m P Q e : ℕ} → Apart p m P Q e → Apart P Q p m e
    flip a = record { under = omega (arith, a.under, a.over); over = omega (arith, a.under, a.over) }

    own : (z : ℕ) → W * G * (z * W) ≡ W * W * (z * G)
    own z = simp (mul_assoc, mul_comm, mul_left_comm)

    other : (z : ℕ) → W * G * (z * G) ≡ G * G * (W * z)
    other z = simp (mul_assoc, mul_comm, mul_left_comm)

    bound : W * W * (ε * G) + (G * G * (W * τ) + W * W * e) ≤ W * W * (ε * G + G + e)
    bound = le_trans (sums (W * W * (ε * G)) (G * G * (W * τ)) (W * W * e) (W * W * G) tail) (le_of_eq (sym (mul-add (W * W) (ε * G + G) e ∙ ap (λ (z : ℕ). z + W * W * e) (mul-add (W * W) (ε * G) G))))
      where
        tail : G * G * (W * τ) ≤ W * W * G
        tail = le_trans (le_of_eq (one τ)) (le_trans (mul-le-mul_left (W * G) small) (le_of_eq two))
          where
            one : (t : ℕ) → G * G * (W * t) ≡ W * G * (t * G)
            one t = simp (mul_assoc, mul_comm, mul_left_comm)

            two : W * G * W ≡ W * W * G
            two = simp (mul_assoc, mul_comm)

        sums : (a b c d : ℕ) → b ≤ d → a + (b + c) ≤ a + d + c
        sums a b c d h = omega arith

same_by : {a b c d e : ℕ} {a' b' : ℕ} → a ≡ a' → b ≡ b' → Apart a b c d e → Apart a' b' c d e
same_by {a} {b} {c} {d} {e} {a'} {b'} p q h = subst (λ (x : ℕ). Apart x b' c d e) p (subst (λ (x : ℕ). Apart a x c d e) q h)

-- ---- with the cosine kc and the sine ks of h
module _ (y h q N ε δ cp cm sp sm kc ks : ℕ) (q0 : 0 < q) (small : y + h ≤ 200 * q) (l : 600 ≤ N)
    (s : State (term y q N) (term y q N 0) N (2 ^ 63) ε cp cm sp sm)
    (k : State (term h q N) (term h q N 0) N (2 ^ 63) δ kc 0 ks 0) where
  abbrev G : ℕ
  G = 2 ^ 63

  abbrev L : ℕ
  L = N + N

  abbrev Z : ℕ
  Z = falling q L (L - 0)

  fits : N ≤ L
  fits = omega arith

  abbrev Pe : ℕ
  Pe = part (term y q L) N east

  abbrev Pn : ℕ
  Pn = part (term y q L) N north

  abbrev Pw : ℕ
  Pw = part (term y q L) N west

  abbrev Ps : ℕ
  Ps = part (term y q L) N south

  abbrev He : ℕ
  He = part (term h q L) N east

  abbrev Hn : ℕ
  Hn = part (term h q L) N north

  abbrev Hw : ℕ
  Hw = part (term h q L) N west

  abbrev Hs : ℕ
  Hs = part (term h q L) N south

  lifted : (a e cp cm sp sm : ℕ) → State (term a q N) (term a q N 0) N G e cp cm sp sm → State (term a q L) Z N G e cp cm sp sm
  lifted a e cp cm sp sm t = subst (λ (x : ℕ). State (term a q L) x N G e cp cm sp sm) (unit_of a q L) (lift a q N L e cp cm sp sm q0 fits t)

  s₁ : State (term y q L) Z N G ε cp cm sp sm
  s₁ = lifted y ε cp cm sp sm s

  s₂ : State (term h q L) Z N G δ kc 0 ks 0
  s₂ = lifted h δ kc 0 ks 0 k

  abbrev slack_cos : ℕ
  slack_cos = cp * δ + cm * δ + ε * (kc + 0 + δ) + (sp * δ + sm * δ + ε * (ks + 0 + δ))

  abbrev slack_sin : ℕ
  slack_sin = cp * δ + cm * δ + ε * (ks + 0 + δ) + (sp * δ + sm * δ + ε * (kc + 0 + δ))

  -- the rotated cosine and sine, and how near they are to the series at the sum
  abbrev c⁺ : ℕ
  c⁺ = cp * kc + cm * 0 + (sp * 0 + sm * ks)

  abbrev c⁻ : ℕ
  c⁻ = cp * 0 + cm * kc + (sp * ks + sm * 0)

  abbrev s⁺ : ℕ
  s⁺ = cp * ks + cm * 0 + (sp * kc + sm * 0)

  abbrev s⁻ : ℕ
  s⁻ = cp * 0 + cm * ks + (sp * 0 + sm * kc)

  abbrev at_sum : Quarter → ℕ
  at_sum t = part (term (y + h) q L) N t

  cosine_product : Apart (Z * Z * c⁺) (Z * Z * c⁻) (G * G * (Pe * He + Pw * Hw + (Pn * Hs + Ps * Hn))) (G * G * (Pe * Hw + Pw * He + (Pn * Hn + Ps * Hs))) (Z * Z * slack_cos)
  cosine_product =
      gather (Z * Z) (G * G) (cp * kc + cm * 0) (sp * 0 + sm * ks) (cp * 0 + cm * kc) (sp * ks + sm * 0) (Pe * He + Pw * Hw) (Pn * Hs + Ps * Hn) (Pe * Hw + Pw * He) (Pn * Hn + Ps * Hs) (cp * δ + cm * δ + ε * (kc + 0 + δ)) (sp * δ + sm * δ + ε * (ks + 0 + δ))
      (product Z G cp cm Pe Pw ε kc 0 He Hw δ s₁.cosine s₂.cosine)
      (apart_swap (product Z G sp sm Pn Ps ε ks 0 Hn Hs δ s₁.sine s₂.sine))

  sine_product : Apart (Z * Z * s⁺) (Z * Z * s⁻) (G * G * (Pe * Hn + Pw * Hs + (Pn * He + Ps * Hw))) (G * G * (Pe * Hs + Pw * Hn + (Pn * Hw + Ps * He))) (Z * Z * slack_sin)
  sine_product =
      gather (Z * Z) (G * G) (cp * ks + cm * 0) (sp * kc + sm * 0) (cp * 0 + cm * ks) (sp * 0 + sm * kc) (Pe * Hn + Pw * Hs) (Pn * He + Ps * Hw) (Pe * Hs + Pw * Hn) (Pn * Hw + Ps * He) (cp * δ + cm * δ + ε * (ks + 0 + δ)) (sp * δ + sm * δ + ε * (kc + 0 + δ))
      (product Z G cp cm Pe Pw ε ks 0 Hn Hs δ s₁.cosine s₂.sine)
      (product Z G sp sm Pn Ps ε kc 0 He Hw δ s₁.sine s₂.cosine)

  order : (a b c d : ℕ) → a + b + c + d ≡ a + c + (b + d)
  order a b c d = omega arith

  cosine_sums : Apart (Pe * He + Pw * Hw + (Pn * Hs + Ps * Hn)) (Pe * Hw + Pw * He + (Pn * Hn + Ps * Hs)) (Z * at_sum east) (Z * at_sum west) (Z * term (y + h) q L N)
  cosine_sums = same_by (order (Pe * He) (Pn * Hs) (Pw * Hw) (Ps * Hn)) (order (Pe * Hw) (Pn * Hn) (Pw * He) (Ps * Hs)) (between y h q N q0 small l east west)

  sine_sums : Apart (Pe * Hn + Pw * Hs + (Pn * He + Ps * Hw)) (Pe * Hs + Pw * Hn + (Pn * Hw + Ps * He)) (Z * at_sum north) (Z * at_sum south) (Z * term (y + h) q L N)
  sine_sums = same_by (order (Pe * Hn) (Pn * He) (Pw * Hs) (Ps * Hw)) (order (Pe * Hs) (Pn * Hw) (Pw * Hn) (Ps * He)) (between y h q N q0 small l north south)

  -- what the code has at the sum is near to the rotated
  module _ (cp' cm' sp' sm' : ℕ) (s' : State (term (y + h) q N) (term (y + h) q N 0) N (2 ^ 63) ε cp' cm' sp' sm') where
    s₃ : State (term (y + h) q L) Z N G ε cp' cm' sp' sm'
    s₃ = lifted (y + h) ε cp' cm' sp' sm' s'

    pub cosine_moved : Apart (cp' * G) (cm' * G) c⁺ c⁻ (ε * G + G + slack_cos)
    cosine_moved = meet Z G c⁺ c⁻ (Pe * He + Pw * Hw + (Pn * Hs + Ps * Hn)) (Pe * Hw + Pw * He + (Pn * Hn + Ps * Hs)) slack_cos (at_sum east) (at_sum west) (term (y + h) q L N) cp' cm' ε (unit_pos y h q N q0 small l) (pow_pos 63) cosine_product cosine_sums s₃.cosine (tiny y h q N q0 small l)

    pub sine_moved : Apart (sp' * G) (sm' * G) s⁺ s⁻ (ε * G + G + slack_sin)
    sine_moved = meet Z G s⁺ s⁻ (Pe * Hn + Pw * Hs + (Pn * He + Ps * Hw)) (Pe * Hs + Pw * Hn + (Pn * Hw + Ps * He)) slack_sin (at_sum north) (at_sum south) (term (y + h) q L N) sp' sm' ε (unit_pos y h q N q0 small l) (pow_pos 63) sine_product sine_sums s₃.sine (tiny y h q N q0 small l)

  -- the rotated, cut by at most g, are near to the series at the sum
  pub rotated : (cp' cm' sp' sm' g ε' : ℕ) → Apart (cp' * G) (cm' * G) c⁺ c⁻ g → Apart (sp' * G) (sm' * G) s⁺ s⁻ g → g + slack_cos + G ≤ G * ε' → g + slack_sin + G ≤ G * ε'
      → State (term (y + h) q N) (term (y + h) q N 0) N (2 ^ 63) ε' cp' cm' sp' sm'
  rotated cp' cm' sp' sm' g ε' hc hs tc ts =
      lowered (y + h) q N L ε' cp' cm' sp' sm' q0 fits
      (subst (λ (x : ℕ). State (term (y + h) q L) x N G ε' cp' cm' sp' sm') (sym (unit_of (y + h) q L))
      (record {
        cosine = finish Z G c⁺ c⁻ (Pe * He + Pw * Hw + (Pn * Hs + Ps * Hn)) (Pe * Hw + Pw * He + (Pn * Hn + Ps * Hs)) slack_cos (at_sum east) (at_sum west) (term (y + h) q L N) cp' cm' g ε' (unit_pos y h q N q0 small l) (pow_pos 63) cosine_product cosine_sums hc (tiny y h q N q0 small l) tc;
        sine = finish Z G s⁺ s⁻ (Pe * Hn + Pw * Hs + (Pn * He + Ps * Hw)) (Pe * Hs + Pw * Hn + (Pn * Hw + Ps * He)) slack_sin (at_sum north) (at_sum south) (term (y + h) q L N) sp' sm' g ε' (unit_pos y h q N q0 small l) (pow_pos 63) sine_product sine_sums hs (tiny y h q N q0 small l) ts;
      }))

-- What is left where a test is not sure: the sine and the multiple of the cosine are near each other. Assumes nothing.
use mathlib.Core.Path.{◌≡◌, refl, sym, ap, ◌∙◌, subst}
use mathlib.Core.Logic.{inl, inr}
use Prim.Native.Nat.{ℕ, zero, suc, ◌+◌, ◌-◌, ◌*◌, ◌%◌, ◌^◌, ◌≤◌, ◌<◌}
use native.Mathlib.Nat.{le_trans, le_of_eq, mod-eq_of_lt, mul-le-mul_right, zero-mul, add-mul}
use native.Mathlib.Omega.{arith}
use Rattle.circle.specs.Inside.Fixed.{IsHigh}
use Rattle.circle.specs.Inside.Signed.{plus, less}
use Rattle.arctangents.specs.Inside.Arctangent.{Good}

pub shifted : (m : ℕ) → m < 2 ^ 53 → m * 1024 % 2 ^ 64 ≡ m * 2 ^ 10
shifted m h = mod-eq_of_lt (go m h)
  where
    go : (m : ℕ) → m < 2 ^ 53 → m * 1024 < 2 ^ 64
    go m h = omega arith

pub one_of : (k : ℕ) → 0 < k → (c : ℕ) → (plus k c ≡ 0) × (less k c ≡ c)
one_of zero h c = absurd (go h)
  where
    go : 0 < 0 → ⊥
    go h = omega arith
one_of (suc k) h c = (refl, refl)

pub none_of : (k : ℕ) → k ≤ 0 → (c : ℕ) → (plus k c ≡ c) × (less k c ≡ 0)
none_of zero h c = (refl, refl)
none_of (suc k) h c = absurd (go k h)
  where
    go : (k : ℕ) → suc k ≤ 0 → ⊥
    go k h = omega arith

pub high_of : (t m h : ℕ) → m < 2 ^ 53 → IsHigh t (m * 1024 % 2 ^ 64) h → IsHigh t (m * 2 ^ 10) h
high_of t m h b i = subst (λ (z : ℕ). IsHigh t z h) (shifted m b) i

-- ---- not surely above
abbrev NB : ℕ → ℕ → ℕ → ℕ → ℕ → ℕ → Type 0
NB cp cm sp sm a b = sp * b + cm * a ≤ sm * b + cp * a + 2 ^ 14 * (a + b)

pub below_negative : (cn c sn s a b : ℕ) → 0 < sn → Good cn c sn s → plus sn s * b + less cn c * a ≤ less sn s * b + plus cn c * a + 2 ^ 14 * (a + b)
below_negative cn c sn s a b h g = elim g.either [
  | inl l ↦ go (plus cn c) (less cn c) (plus sn s) (less sn s) (one_of sn h s).0 l
  | inr l ↦ absurd (clash (plus sn s) (less sn s) (one_of sn h s).0 l)
]
  where
    go : (cp cm sp sm : ℕ) → sp ≡ 0 → 2 ^ 60 + cm ≤ cp → NB cp cm sp sm a b
    go cp cm sp sm e l = rw (e, zero-mul b) (sums (cm * a) (sm * b) (cp * a) (mul-le-mul_right a (weak cp cm l)))
      where
        weak : (cp cm : ℕ) → 2 ^ 60 + cm ≤ cp → cm ≤ cp
        weak cp cm l = omega arith

        sums : (x y z : ℕ) → x ≤ z → 0 + x ≤ y + z + 2 ^ 14 * (a + b)
        sums x y z h = omega arith

    clash : (sp sm : ℕ) → sp ≡ 0 → 2 ^ 60 + sm ≤ sp → ⊥
    clash sp sm e l = omega arith

pub below_small : (cn c sn s a b : ℕ) → sn ≤ 0 → s < 8192 → Good cn c sn s → plus sn s * b + less cn c * a ≤ less sn s * b + plus cn c * a + 2 ^ 14 * (a + b)
below_small cn c sn s a b h k g = elim g.either [
  | inl l ↦ go (plus cn c) (less cn c) (plus sn s) (less sn s) (small (plus sn s) (none_of sn h s).0) l
  | inr l ↦ absurd (clash (plus sn s) (less sn s) (small (plus sn s) (none_of sn h s).0) l)
]
  where
    small : (sp : ℕ) → sp ≡ s → sp ≤ 8192
    small sp e = omega arith

    go : (cp cm sp sm : ℕ) → sp ≤ 8192 → 2 ^ 60 + cm ≤ cp → NB cp cm sp sm a b
    go cp cm sp sm e l = sums (sp * b) (cm * a) (sm * b) (cp * a) (mul-le-mul_right b e) (mul-le-mul_right a (weak cp cm l))
      where
        weak : (cp cm : ℕ) → 2 ^ 60 + cm ≤ cp → cm ≤ cp
        weak cp cm l = omega arith

        sums : (w x y z : ℕ) → w ≤ 8192 * b → x ≤ z → w + x ≤ y + z + 2 ^ 14 * (a + b)
        sums w x y z h k = omega arith

    clash : (sp sm : ℕ) → sp ≤ 8192 → 2 ^ 60 + sm ≤ sp → ⊥
    clash sp sm e l = omega arith

split : (s b : ℕ) → 8192 ≤ s → s * b ≡ (s - 8192) * b + 8192 * b
split s b h = ap (λ (z : ℕ). z * b) (go s h) ∙ add-mul (s - 8192) 8192 b
  where
    go : (s : ℕ) → 8192 ≤ s → s ≡ s - 8192 + 8192
    go s h = omega arith

pub below_west : (cn c sn s a b : ℕ) → 0 < cn → sn ≤ 0 → 8192 ≤ s → c < 8192 → (s - 8192) * b ≤ (8192 - c + 8) * a + b → plus sn s * b + less cn c * a ≤ less sn s * b + plus cn c * a + 2 ^ 14 * (a + b)
below_west cn c sn s a b h k l m r = rw ((one_of cn h c).0, (one_of cn h c).1, (none_of sn k s).0, (none_of sn k s).1) (sums (s * b) ((s - 8192) * b) (c * a) ((8192 - c + 8) * a) (split s b l) (sym (add-mul (8192 - c + 8) c a) ∙ ap (λ (z : ℕ). z * a) (all c m)) r)
  where
    all : (c : ℕ) → c < 8192 → 8192 - c + 8 + c ≡ 8200
    all c m = omega arith

    sums : (sb s'b ca t : ℕ) → sb ≡ s'b + 8192 * b → t + ca ≡ 8200 * a → s'b ≤ t + b → sb + ca ≤ 0 * b + 0 * a + 2 ^ 14 * (a + b)
    sums sb s'b ca t e f g = omega arith

pub below_east : (cn c sn s a b : ℕ) → cn ≤ 0 → sn ≤ 0 → 8192 ≤ s → (s - 8192) * b ≤ (c + 8192 + 8) * a + b → plus sn s * b + less cn c * a ≤ less sn s * b + plus cn c * a + 2 ^ 14 * (a + b)
below_east cn c sn s a b h k l r = rw ((none_of cn h c).0, (none_of cn h c).1, (none_of sn k s).0, (none_of sn k s).1) (sums (s * b) ((s - 8192) * b) (c * a) ((c + 8192 + 8) * a) (split s b l) (add-mul (c + 8192) 8 a ∙ ap (λ (z : ℕ). z + 8 * a) (add-mul c 8192 a)) r)
  where
    sums : (sb s'b ca t : ℕ) → sb ≡ s'b + 8192 * b → t ≡ ca + 8192 * a + 8 * a → s'b ≤ t + b → sb + 0 * a ≤ 0 * b + ca + 2 ^ 14 * (a + b)
    sums sb s'b ca t e f g = omega arith

-- ---- not surely below
pub above_west : (cn c sn s a b : ℕ) → 0 < cn → Good cn c sn s → plus cn c * a + less sn s * b ≤ less cn c * a + plus sn s * b + 2 ^ 14 * (a + b)
above_west cn c sn s a b h g = go (plus cn c) (less cn c) (plus sn s) (less sn s) (one_of cn h c).0 g.s_sign
  where
    go : (cp cm sp sm : ℕ) → cp ≡ 0 → sm ≤ sp + 8192 → cp * a + sm * b ≤ cm * a + sp * b + 2 ^ 14 * (a + b)
    go cp cm sp sm e l = rw (e, zero-mul a) (sums (sm * b) (cm * a) (sp * b) (le_trans (mul-le-mul_right b l) (le_of_eq (add-mul sp 8192 b))))
      where
        sums : (x y z : ℕ) → x ≤ z + 8192 * b → 0 + x ≤ y + z + 2 ^ 14 * (a + b)
        sums x y z h = omega arith

pub above_small : (cn c sn s a b : ℕ) → cn ≤ 0 → c < 8192 → Good cn c sn s → plus cn c * a + less sn s * b ≤ less cn c * a + plus sn s * b + 2 ^ 14 * (a + b)
above_small cn c sn s a b h k g = go (plus cn c) (less cn c) (plus sn s) (less sn s) (small (plus cn c) (none_of cn h c).0) g.s_sign
  where
    small : (cp : ℕ) → cp ≡ c → cp ≤ 8192
    small cp e = omega arith

    go : (cp cm sp sm : ℕ) → cp ≤ 8192 → sm ≤ sp + 8192 → cp * a + sm * b ≤ cm * a + sp * b + 2 ^ 14 * (a + b)
    go cp cm sp sm e l = sums (cp * a) (sm * b) (cm * a) (sp * b) (mul-le-mul_right a e) (le_trans (mul-le-mul_right b l) (le_of_eq (add-mul sp 8192 b)))
      where
        sums : (w x y z : ℕ) → w ≤ 8192 * a → x ≤ z + 8192 * b → w + x ≤ y + z + 2 ^ 14 * (a + b)
        sums w x y z h k = omega arith

pub above_south : (cn c sn s a b : ℕ) → cn ≤ 0 → 0 < sn → 8192 ≤ c → Good cn c sn s → (c - 8192) * a ≤ 8192 * b + 10 * a → plus cn c * a + less sn s * b ≤ less cn c * a + plus sn s * b + 2 ^ 14 * (a + b)
above_south cn c sn s a b h k l g r = rw ((none_of cn h c).0, (none_of cn h c).1) (go (plus sn s) (less sn s) (one_of sn k s).0 g.s_sign)
  where
    go : (sp sm : ℕ) → sp ≡ 0 → sm ≤ sp + 8192 → c * a + sm * b ≤ 0 * a + sp * b + 2 ^ 14 * (a + b)
    go sp sm e m = rw (e, zero-mul b) (sums (c * a) ((c - 8192) * a) (sm * b) (split c a l) r (mul-le-mul_right b (small sp sm e m)))
      where
        small : (sp sm : ℕ) → sp ≡ 0 → sm ≤ sp + 8192 → sm ≤ 8192
        small sp sm e m = omega arith

        sums : (ca c'a x : ℕ) → ca ≡ c'a + 8192 * a → c'a ≤ 8192 * b + 10 * a → x ≤ 8192 * b → ca + x ≤ 0 * a + 0 + 2 ^ 14 * (a + b)
        sums ca c'a x e h k = omega arith

pub above_north : (cn c sn s a b : ℕ) → cn ≤ 0 → sn ≤ 0 → 8192 ≤ c → (c - 8192) * a ≤ (s + 8192) * b + 10 * a → plus cn c * a + less sn s * b ≤ less cn c * a + plus sn s * b + 2 ^ 14 * (a + b)
above_north cn c sn s a b h k l r = rw ((none_of cn h c).0, (none_of cn h c).1, (none_of sn k s).0, (none_of sn k s).1) (sums (c * a) ((c - 8192) * a) (s * b) ((s + 8192) * b) (split c a l) (add-mul s 8192 b) r)
  where
    sums : (ca c'a sb t : ℕ) → ca ≡ c'a + 8192 * a → t ≡ sb + 8192 * b → c'a ≤ t + 10 * a → ca + 0 * b ≤ 0 * a + sb + 2 ^ 14 * (a + b)
    sums ca c'a sb t e f g = omega arith

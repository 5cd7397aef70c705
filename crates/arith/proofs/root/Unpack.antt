-- The bit patterns of the doubles above zero: which number each stands for, as m * 2 ^ e / 2 ^ 2148 with an m of 53 digits. Assumes nothing.
use Rattle.std.proofs.Common.{◌≡◌, ℕ, suc, ◌+◌, ◌-◌, ◌*◌, ◌/◌, ◌%◌, ◌^◌, ◌<◌, ◌≤◌, Bool, false, cond, T, eqb, sym, ap, ◌∙◌, subst, le_trans, le_of_eq, lt_of_lt_of_le, lt_irrefl, mul-le-mul_right, mod-eq_of_lt, mul_assoc, add_comm, lt_of_not-le, mul-one, mul_right_comm, arith, eqb→eq, pow_mono, pow-add, shl_lt}
use lib.Dec.{not_T}
use lib.Bits.{bit_and, and_mask}
use lib.Count.{count_leading_zeros, leading_top}
use lib.Ieee.{Float, nan, inf, fin, up, down, binary64, odd, of_fields}
use lib.Ieee.Bits.{cond_no}
use lib.Ieee.Exact.{HasValue, odd_sign}
use Rattle.arith.specs.Double.{bits}
use Rattle.arith.specs.Inside.Scaled.{IsScaled}
use Rattle.arith.proofs.Fields.{bits_unsigned}

-- ---- what a pattern below the infinity's is read as
subnormal : (b : ℕ) → b < 2 ^ 52 → bits b ≡ odd 53 false b 0 1074
unfolding of_fields
subnormal b h = bits_unsigned b (omega arith) ∙ ap (λ (x : ℕ). of_fields binary64 false x (b % 2 ^ 52)) none ∙ ap (λ (t : ℕ). odd 53 false t 0 1074) (mod-eq_of_lt h)
  where
    none : b / 2 ^ 52 ≡ 0
    none = omega arith

under_ones : (t x : ℕ) → suc x < 2047 → of_fields binary64 false (suc x) t ≡ odd 53 false (2 ^ 52 + t) x 1074
unfolding of_fields
under_ones t x h = cond_no (eqb (suc x) 2047) (cond (eqb t 0) (inf false) nan) (odd 53 false (2 ^ 52 + t) x 1074) (not_T (eqb (suc x) 2047) (λ (u : T (eqb (suc x) 2047)). differ (eqb→eq (suc x) 2047 u)))
  where
    differ : suc x ≡ 2047 → ⊥
    differ e = omega arith

normal : (b : ℕ) → 2 ^ 52 ≤ b → b < 2047 * 2 ^ 52 → bits b ≡ odd 53 false (2 ^ 52 + b % 2 ^ 52) (b / 2 ^ 52 - 1) 1074
normal b h k = bits_unsigned b (omega arith) ∙ ap (λ (x : ℕ). of_fields binary64 false x (b % 2 ^ 52)) field ∙ under_ones (b % 2 ^ 52) (b / 2 ^ 52 - 1) field_lt
  where
    field : b / 2 ^ 52 ≡ suc (b / 2 ^ 52 - 1)
    field = omega arith

    field_lt : suc (b / 2 ^ 52 - 1) < 2047
    field_lt = omega arith

-- ---- the same value as another fraction
times : (x : Float) (s : Bool) (a c k : ℕ) → HasValue x s a c → HasValue x s (a * k) (c * k)
times nan s a c k h = h
times (inf t) s a c k h = h
times (fin t m e) s a c k h = (h.0, sym (mul_assoc (m * up e) c k) ∙ ap (λ (x : ℕ). x * k) h.1 ∙ mul_right_comm a (down e) k)

valued : (x y : Float) (q j a : ℕ) → x ≡ y → HasValue y false (q * 2 ^ j) (2 ^ 1074) → q * 2 ^ j * 2 ^ 1074 ≡ a → HasValue x false a (2 ^ 1074 * 2 ^ 1074)
valued x y q j a e h p = rw e (subst (λ (z : ℕ). HasValue y false z (2 ^ 1074 * 2 ^ 1074)) p (times y false (q * 2 ^ j) (2 ^ 1074) (2 ^ 1074) h))

-- ---- a field of zeros: the digits are moved up until the highest is the 53rd
pub mask : (b : ℕ) → bit_and b (2 ^ 52 - 1) ≡ b % 2 ^ 52
mask b = and_mask b 52

-- d has z zeros in front, in 64 places
pub record Moved (d z : ℕ) : Type 0 where
  pub lead : 11 ≤ z
  pub move : z - 11 ≤ 52
  pub least : 2 ^ 52 ≤ d * 2 ^ (z - 11)
  pub most : d * 2 ^ (z - 11) < 2 ^ 53

pub moved : (d : ℕ) → 0 < d → d < 2 ^ 52 → Moved d (count_leading_zeros 64 d)
moved d p h =
    let t = leading_top 64 d p (lt_of_lt_of_le h (pow_mono {i = 52} {j = 64} (omega arith))) in
    at (count_leading_zeros 64 d) t.0 t.1 t.2 t.3 (fewer t.0 t.2)
  where
    fewer : (j : ℕ) → 2 ^ j ≤ d → j < 52
    fewer j l = lt_of_not-le (λ (g : 52 ≤ j). lt_irrefl d (lt_of_lt_of_le h (le_trans (pow_mono g) l)))

    at : (z j : ℕ) → z + suc j ≡ 64 → 2 ^ j ≤ d → d < 2 ^ suc j → j < 52 → Moved d z
    at z j e l u k =
        let s : j + (z - 11) ≡ 52 = omega arith in
        let s' : suc j + (z - 11) ≡ 53 = omega arith in
        record {
          lead = omega arith;
          move = omega arith;
          least = le_trans (le_of_eq (sym (sym (pow-add 2 j (z - 11)) ∙ ap (λ (x : ℕ). 2 ^ x) s))) (mul-le-mul_right (2 ^ (z - 11)) l);
          most = subst (λ (x : ℕ). d * 2 ^ (z - 11) < 2 ^ x) s' (shl_lt (suc j) (z - 11) u);
        }

-- moved up, it is still a machine word
pub kept : (d z : ℕ) → Moved d z → d * 2 ^ (z - 11) % 2 ^ 64 ≡ d * 2 ^ (z - 11)
kept d z m = mod-eq_of_lt (lt_of_lt_of_le m.most (pow_mono {i = 53} {j = 64} (omega arith)))

pub scaled_low : (b z : ℕ) → 0 < b → b < 2 ^ 52 → Moved b z → IsScaled b (b * 2 ^ (z - 11) % 2 ^ 64) (1074 - (z - 11))
scaled_low b z p h m =
    let s = z - 11 in
    let short : s ≤ 52 = m.move in
    rw (kept b z m) (record {
      least = m.least;
      most = m.most;
      from = omega arith;
      upto = omega arith;
      value = valued (bits b) (odd 53 false b 0 1074) b 0 (b * 2 ^ s * 2 ^ (1074 - s)) (subnormal b h) (odd_sign 53 false b 0 1074)
          (ap (λ (x : ℕ). x * 2 ^ 1074) (mul-one b) ∙ ap (λ (x : ℕ). b * x) (ap (λ (x : ℕ). 2 ^ x) (join s short) ∙ pow-add 2 s (1074 - s)) ∙ sym (mul_assoc b (2 ^ s) (2 ^ (1074 - s))));
    })
  where
    join : (s : ℕ) → s ≤ 52 → 1074 ≡ s + (1074 - s)
    join s h = omega arith

-- ---- any other field
pub scaled_high : (b : ℕ) → 2 ^ 52 ≤ b → b < 2047 * 2 ^ 52 → IsScaled b (b % 2 ^ 52 + 2 ^ 52) (b / 2 ^ 52 + 1073)
scaled_high b h k = record {
  least = omega arith;
  most = omega arith;
  from = omega arith;
  upto = omega arith;
  value = valued (bits b) (odd 53 false (2 ^ 52 + b % 2 ^ 52) x 1074) (2 ^ 52 + b % 2 ^ 52) x ((b % 2 ^ 52 + 2 ^ 52) * 2 ^ (b / 2 ^ 52 + 1073)) (normal b h k) (odd_sign 53 false (2 ^ 52 + b % 2 ^ 52) x 1074)
      (mul_assoc (2 ^ 52 + b % 2 ^ 52) (2 ^ x) (2 ^ 1074) ∙ ap (λ (y : ℕ). (2 ^ 52 + b % 2 ^ 52) * y) (sym (pow-add 2 x 1074) ∙ ap (λ (y : ℕ). 2 ^ y) back) ∙ ap (λ (y : ℕ). y * 2 ^ (b / 2 ^ 52 + 1073)) (add_comm (2 ^ 52) (b % 2 ^ 52)));
}
  where
    x : ℕ
    x = b / 2 ^ 52 - 1

    back : b / 2 ^ 52 - 1 + 1074 ≡ b / 2 ^ 52 + 1073
    back = omega arith

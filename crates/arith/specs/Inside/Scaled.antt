-- What a double's bits are taken apart into. Definitions only.
use Rattle.std.specs.Prelude.{ℕ, ◌+◌, ◌-◌, ◌*◌, ◌/◌, ◌%◌, ◌^◌, ◌<◌, ◌≤◌, false, cond, ◌==◌}
use Rattle.std.specs.Int.Count.{count_leading_zeros}
use Rattle.std.specs.Float.Ieee.Exact.{HasValue}
use Rattle.arith.specs.Double.{bits}

-- The double with these bits is m * 2 ^ e / 2 ^ 2148, and m has 53 binary digits.
pub record IsScaled (b m e : ℕ) : Type 0 where
  pub least : 2 ^ 52 ≤ m
  pub most : m < 2 ^ 53
  pub from : 1022 ≤ e
  pub upto : e ≤ 3119
  pub value : HasValue (bits b) false (m * 2 ^ e) (2 ^ 1074 * 2 ^ 1074)

pub record Parts : Type 0 where
  pub m : ℕ
  pub e : ℕ

abbrev pub parts : ℕ → ℕ → Parts
parts m e = record { m = m; e = e }

-- That m and that e, for bits below those of the infinity. The digits of a number with a field of zeros are moved up to 53.
unfoldable pub scaled : ℕ → Parts
scaled b =
    let field = b / 2 ^ 52 in
    let digits = b % 2 ^ 52 in
    let zeros = count_leading_zeros 64 digits - 11 in
    record {
      m = cond (field == 0) (digits * 2 ^ zeros) (digits + 2 ^ 52);
      e = cond (field == 0) (1074 - zeros) (field + 1073);
    }

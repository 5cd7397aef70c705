-- `records::text::decimal` meets its contract. Assumes nothing.
use mathlib.Core.Path.{◌≡◌, ap, ◌∙◌}
use mathlib.Core.List.{[], ◌∷◌}
use Prim.Native.Nat.{ℕ, ◌+◌, ◌/◌, ◌%◌, ◌^◌, ◌≤◌, ◌<◌}
use native.Mathlib.Omega.{arith}
use lib.ListN.{length, length-append}
use Rattle.records.specs.Text.{decimal, digit}
use Rattle.records.proofs.Laws.{decimal_one, decimal_two, decimal_more, put_then, put_length}
use Rattle.records.proofs.text.+decimal.Goals as goal

longer : (n : ℕ) → n < 2 ^ 64 → 100 ≤ n → length (decimal n) ≡ length (decimal (n / 100)) + 2
longer n fits h = ap length (decimal_more n fits h) ∙ length-append (decimal (n / 100)) (digit (n % 100 / 10) ∷ digit (n % 100 % 10) ∷ [])

pub byte-requires : goal.byte-requires
byte-requires t c = omega (arith, ap length (decimal_one c.args.n c.if-n-lt10.true))

pub returns-then-n-lt10 : goal.returns-then-n-lt10
returns-then-n-lt10 t c = rw (decimal_one c.args.n c.if-n-lt10.true, ← c.digit.ensures) c.byte.ensures

pub two_digits-requires : goal.two_digits-requires
two_digits-requires t c = (c.if-n-lt100.true, omega (arith, ap length (decimal_two c.args.n c.if-n-lt10.false c.if-n-lt100.true)))

pub returns-then-n-lt100 : goal.returns-then-n-lt100
returns-then-n-lt100 t c = rw (decimal_two c.args.n c.if-n-lt10.false c.if-n-lt100.true) c.two_digits.ensures

pub decimal-front-requires : goal.decimal-front-requires
decimal-front-requires t c = (omega arith, omega (arith, longer c.args.n c.ranges.n.fits c.if-n-lt100.false))

pub two_digits-requires-2 : goal.two_digits-requires-2
two_digits-requires-2 t c =
    let p = c.decimal-front.ensures in
    (omega arith, omega (arith, p.ends, put_length p, longer c.args.n c.ranges.n.fits c.if-n-lt100.false))

pub returns : goal.returns
returns t c = rw (decimal_more c.args.n c.ranges.n.fits c.if-n-lt100.false) (put_then c.decimal-front.ensures c.two_digits-2.ensures)

-- Every value of an accepted row is a finite number. Assumes nothing.
use Prim.Native.Nat.{ℕ, ◌+◌, ◌-◌, ◌≤◌}
use native.Mathlib.Omega.{arith}
use mathlib.Core.Path.{◌≡◌, refl}
use mathlib.Core.Bool.{false}
use lib.Ieee.{Float, nan, inf, fin, binary64, neg, lt, of_bits}
use Rattle.arith.specs.Double.{◌⊕◌, ◌⊗◌, ◌⊘◌, dbl, #1e-10, #2}
use Rattle.arith.proofs.Flags.{cases}
use Rattle.arith.proofs.Laws.{two, dbl_quotient}
use Rattle.arith.proofs.Unsigned.{Unsigned, round_signed}
use Rattle.arith.proofs.Bounded.{Bounded, zero_bounded, dbl_bounded, mul_bounded, add_bounded, half_bounded, term_bounded}
use Rattle.sturm.proofs.Bounded.{bounds_finite}
use Rattle.segv.specs.declared.bisection.Bracket.{Bracket}
use Rattle.segv.specs.Row.{written_row, mode_at}
use Rattle.segv.proofs.Kept.{row_kept}
use Rattle.requests.specs.declared.checking.Kind.{Kind}
use Rattle.requests.specs.declared.checking.Kind.TheVariants.{Prolate, Oblate}
use Rattle.requests.specs.declared.checking.Mode.{Mode}
use Rattle.requests.specs.Refusals.{sign_of, cs_of, entries_of, not_finite, #291}
use Rattle.requests.proofs.Laws.{Accepted, not_negative}
use Rattle.rows.specs.Rows.{zero_at}
use Rattle.rows.specs.Finite.{FiniteRow}
use Rattle.rows.proofs.Filled.{both, bracket_at, filled, long_all, written_at}

bounded_finite : (k : ℕ) (x : Float) → Bounded k x → not_finite x ≡ false
unfolding not_finite
bounded_finite k nan h = absurd h
bounded_finite k (inf s) h = absurd h
bounded_finite k (fin s m e) h = refl

-- ---- c and cs

half_unsigned : (n : ℕ) → n ≤ 199 → Unsigned (dbl n ⊘ #2)
half_unsigned n h = rw (two, dbl_quotient n 2 (omega arith) (omega arith) (omega arith)) (round_signed binary64 false n 2)

-- H, which c is a term of, is below 291
parameter_bounded : (x : Mode) → Accepted x → Bounded 60 x.c
unfolding of_bits
parameter_bounded x r =
    let n = x.n - x.m in
    let s = r.span in
    term_bounded 60 291 (dbl n ⊘ #2) x.c #291 (omega arith) (omega arith) (half_unsigned n s) (half_bounded 60 (dbl n) (omega arith) (dbl_bounded 61 n (omega arith) (omega arith)))
    (not_negative x.c r.parameter) (refl, refl) r.below

sign_bounded : (kind : Kind) → Bounded 0 (sign_of kind)
unfolding sign_of of_bits neg
sign_bounded Prolate = omega arith
sign_bounded Oblate = omega arith

cs_bounded : (kind : Kind) (x : Mode) → Accepted x → Bounded 120 (cs_of kind x)
cs_bounded kind x r =
    let c = parameter_bounded x r in
    mul_bounded 120 0 (x.c ⊗ x.c) (sign_of kind) (omega arith) (mul_bounded 60 60 x.c x.c (omega arith) c c) (sign_bounded kind)

-- ---- the values

midpoint_bounded : (u l : Float) → Bounded 290 u → Bounded 290 l → Bounded 290 ((u ⊕ l) ⊘ #2)
midpoint_bounded u l h k = half_bounded 290 (u ⊕ l) (omega arith) (add_bounded 290 u l (omega arith) h k)

zero_row_finite : (m j : ℕ) → m + j ≤ 400 → not_finite (zero_at m j).value ≡ false
unfolding zero_at
zero_row_finite m j h = bounded_finite 20 (dbl (m + j) ⊗ dbl (m + j + 1)) (mul_bounded 10 10 (dbl (m + j)) (dbl (m + j + 1)) (omega arith) (dbl_bounded 10 (m + j) (omega arith) (omega arith)) (dbl_bounded 10 (m + j + 1) (omega arith) (omega arith)))

pub finite_row : FiniteRow
unfolding written_row
finite_row kind x allowance l h j hj =
    let g = filled kind x allowance l h in
    let k = long_all x l g.long in
    let r = g.range in
    rw (g.is, written_at (λ b. b.value) (bracket_at kind x allowance) l.values nan (x.n - x.m + 1) j (omega arith) (omega (arith, k.v)))
    (cases (λ (b : Bracket). not_finite b.value ≡ false) (lt x.c #1e-10) (zero_at x.m j) (mode_at (both kind x allowance) j)
    (λ _. zero_row_finite x.m j (omega (arith, r)))
    (λ _. bounded_finite 290 (mode_at (both kind x allowance) j).value
    (row_kept (Bounded 290) midpoint_bounded x.m x.n (cs_of kind x) (entries_of x) allowance (omega (arith, r)) (zero_bounded 290)
    (λ parity p. bounds_finite x.m parity (cs_of kind x) (entries_of x) r.order p (cs_bounded kind x r) r.few) j hj)))

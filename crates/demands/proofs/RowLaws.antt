-- The statements of `specs/RowLaws.antt`. Assumes nothing.
use Prim.Native.Nat.{ℕ, ◌+◌, ◌-◌, ◌^◌, ◌≤◌}
use native.Mathlib.Nat.{mul-le-mul}
use native.Mathlib.Omega.{arith}
use mathlib.Core.Path.{◌≡◌, refl, ap, ◌∙◌}
use mathlib.Core.Bool.{Bool, true, false}
use lib.Ieee.{Float, lt}
use Rattle.arith.specs.Double.{dbl, #0, #1e-10}
use Rattle.arith.proofs.Laws.{dbl_product}
use Rattle.segv.specs.declared.bisection.Bracket.{Bracket}
use Rattle.segv.specs.Families.{either_stopped}
use Rattle.segv.specs.Row.{Slices, flag, written_row}
use Rattle.segv.proofs.Allowance.{families_more}
use Rattle.requests.specs.declared.checking.Mode.{Mode}
use Rattle.requests.specs.declared.checking.Kind.{Kind}
use Rattle.requests.specs.declared.checking.Kind.TheVariants.{Prolate, Oblate}
use Rattle.requests.specs.Refusals.{cs_of, entries_of}
use Rattle.rows.specs.Rows.{row_of, row_in, zero_at}
use Rattle.rows.proofs.Laws.{dlmf_mode}
use Rattle.demands.specs.Demand3.{eigenvalue}
use Rattle.demands.specs.RowLaws.{dlmf_at_zero, ZeroParameter, FlagsHanded, DlmfZeroParameter, MoreAllowance}
use Rattle.demands.proofs.Zero.{zero_square, zero_below, less_zero, more_zero}
use Rattle.demands.proofs.Demand3.{demand_3_dlmf}
use Rattle.rows.proofs.Filled.{both, bracket_at, filled, long_all, written_at}
use Rattle.demands.proofs.Handed.{handed_at, flag_back}

zero_is : (m j : ℕ) → m ≤ 199 → j ≤ 199 → let v = dbl (dlmf_at_zero (m + j)) in zero_at m j ≡ record { value = v; lower = v; upper = v; steps = 0; substituted = false }
unfolding zero_at
zero_is m j h k = ap (λ (v : Float). record { value = v; lower = v; upper = v; steps = 0; substituted = false }) (dbl_product (m + j) (m + j + 1) (omega arith) (omega arith))

pub zero_parameter : ZeroParameter
zero_parameter kind x allowance l h z j hj =
    let g = filled kind x allowance l h in
    let r = g.range in
    rw (g.is, handed_at x (bracket_at kind x allowance) l (long_all x l g.long) j hj, z) (zero_is x.m j r.order (omega arith))

pub flags_handed : FlagsHanded
unfolding written_row
flags_handed kind x allowance l h j hj =
    let g = filled kind x allowance l h in
    let k = long_all x l g.long in
    let b = bracket_at kind x allowance in
    rw (g.is, written_at (λ b. flag b.substituted) b l.substituted 0 (x.n - x.m + 1) j (omega arith) (omega (arith, k.f)), flag_back (b j).substituted)

-- the square of zero moves no whole number, taken away or added
not_moved : (kind : Kind) (k : ℕ) → k ≤ 2 ^ 53 → eigenvalue kind (dbl k) #0 ≡ dbl k
not_moved Prolate k h = less_zero k h
not_moved Oblate k h = more_zero k h

pub dlmf_zero_parameter : DlmfZeroParameter
dlmf_zero_parameter kind x allowance xs l h t z j hj =
    let r = dlmf_mode kind x allowance xs h in
    let d = demand_3_dlmf kind x allowance xs l h t in
    let v = ap (λ (b : Bracket). b.value) (zero_parameter kind x allowance l d.0 (zero_below x.c z) j hj) in
    let k = dlmf_at_zero (x.m + j) in
    (d.1 j hj ∙ rw (zero_square x.c z, v) (not_moved kind k (few (x.m + j) (omega (arith, r)))), v)
  where
    few : (n : ℕ) → n ≤ 398 → dlmf_at_zero n ≤ 2 ^ 53
    few n h = omega (arith, mul-le-mul {n₁ = n} {m₁ = n + 1} {n₂ = 398} {m₂ = 399} h (omega arith))

row_in_more : (kind : Kind) (x : Mode) (a b : ℕ) (l : Slices) → a ≤ b → (lt x.c #1e-10 ≡ false → either_stopped (both kind x a) ≡ false) → row_in kind x b l ≡ row_in kind x a l
unfolding row_in
row_in_more kind x a b l h k = go (lt x.c #1e-10) refl
  where
    go : (z : Bool) → lt x.c #1e-10 ≡ z → row_in kind x b l ≡ row_in kind x a l
    go true hz = rw hz
    go false hz = rw (hz, families_more x.m x.n (cs_of kind x) (entries_of x) a b h (k hz))

pub more_allowance : MoreAllowance
unfolding row_of
more_allowance kind x a b l h k = let g = filled kind x a l k in rw (row_in_more kind x a b l h g.given.kept)

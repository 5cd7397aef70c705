-- What a row hands out. Assumes nothing.
use Prim.Native.Nat.{ℕ, ◌+◌, ◌-◌, ◌≤◌}
use native.Mathlib.Omega.{arith}
use mathlib.Core.Path.{◌≡◌, refl}
use mathlib.Core.Bool.{Bool, true, false}
use lib.Dec.{eqb}
use lib.Ieee.{nan}
use Rattle.segv.specs.declared.bisection.Bracket.{Bracket}
use Rattle.segv.specs.Row.{Slices, flag, written_row}
use Rattle.requests.specs.declared.checking.Mode.{Mode}
use Rattle.demands.specs.Demand3.{handed}
use Rattle.rows.proofs.Filled.{written_at, Long}

-- a flag is read back from its byte
pub flag_back : (b : Bool) → eqb (flag b) 1 ≡ b
flag_back true = refl
flag_back false = refl

pub handed_at : (x : Mode) (bracket : ℕ → Bracket) (l : Slices) → Long x l → (j : ℕ) → j ≤ x.n - x.m → handed (written_row bracket (x.n - x.m + 1) l) j ≡ bracket j
unfolding written_row
handed_at x bracket l k j hj =
    let n = x.n - x.m + 1 in
    rw (
      written_at (λ b. b.value) bracket l.values nan n j (omega arith) (omega (arith, k.v)),
      written_at (λ b. b.lower) bracket l.lowers nan n j (omega arith) (omega (arith, k.w)),
      written_at (λ b. b.upper) bracket l.uppers nan n j (omega arith) (omega (arith, k.u)),
      written_at (λ b. b.steps) bracket l.steps 0 n j (omega arith) (omega (arith, k.s)),
      written_at (λ b. flag b.substituted) bracket l.substituted 0 n j (omega arith) (omega (arith, k.f)),
      flag_back (bracket j).substituted,
    )

-- `sheets::checking::parameters_refusal` meets its contract. The invariant: no parameter before the next is refused. Assumes nothing.
use Prim.Native.Nat.{ℕ, ◌-◌, ◌≤◌}
use mathlib.Core.Path.{◌≡◌}
use lib.Ieee.{Float}
use lib.ListN.{length, drop}
use Rattle.requests.specs.Refusals.{mode_refusal}
use Rattle.sheets.specs.Sheet.{mode_with, first_refusal}
use Rattle.sheets.proofs.checking.parameters_refusal.Given as goal

abbrev pub refusal : ℕ → ℕ → Float → ℕ
refusal m n c = mode_refusal (mode_with m n c)

abbrev pub invariant-loop-c : goal.invariant-loop-c
invariant-loop-c l = (first_refusal (refusal l.m l.n) l.cs ≡ first_refusal (refusal l.m l.n) (drop l.c-index l.cs))
